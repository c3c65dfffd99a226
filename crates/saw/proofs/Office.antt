-- The saw beside the office: a plan's check with other prices has the same verdict, copies and areas, and without 6 the block's checks
-- decide alike.
use Rattle.saw.proofs.Prelude.{◌≡◌, refl, sym, ◌∙◌, ap, Bool, true, false, List, [], ◌∷◌, ◌++◌, ℕ, zero, suc, ◌+◌, ◌-◌, ◌*◌, ltb, get_or, set, Node, Waste, Piece, Turned, Cut, most_price, most_demand, area, breadth, Rect, Job, laid, Price, Demand, next, refuse_when, first_refusal, Choices, price_at, demand_at, sizes_end, count_at, header_checks, size_check, pair_checks, each_kind, grain_checks, job_checks, block_job, block_parts, idle_checks, Report, node_of, node_checks, parts, report_after, empty_report, proceed, walk, plan_checks, nodes_in, walk_answer, plan_answer, arrays_answer, no_pass, SawReport, demand_checks, saw_checks, saw_job, without_profit, saw_of, saw_answer, BesideOffice, Ok, Err, Checked, Answer, verdict_of}
use Rattle.cutting.specs.Pieces as laid
use Rattle.saw.proofs.Sawn.{sawn_verdict, refused_verdict}

-- a job at other prices
abbrev at_prices : (ℕ → ℕ) → Job → Job
at_prices price J = record { plate = J.plate; kerf = J.kerf; turning = J.turning; full_demand = J.full_demand; count = J.count; size = J.size; price = price; demand = J.demand; grain = J.grain }

-- what follows a check is alike where it is
proceed_alike : (v : Checked) (a b : Answer Report) → saw_of a ≡ saw_of b → saw_of (proceed v a) ≡ saw_of (proceed v b)
proceed_alike (Ok _) a b h = h
proceed_alike (Err r) a b h = refl

-- a report with a piece more, without its profit
abbrev laid_more : ℕ → Rect → Rect → SawReport → SawReport
laid_more k size r w = record { copies = set w.copies k (get_or w.copies k 0 + 1); pieces = w.pieces + area size; waste = w.waste; trim = w.trim + (area r - area size); sawdust = w.sawdust }

module _ (J : Job) (price : ℕ → ℕ) where
  -- a node more
  counted_alike : (n : Node) (r : Rect) (s z : Report) → without_profit s ≡ without_profit z → without_profit (report_after J n r s) ≡ without_profit (report_after (at_prices price J) n r z)
  counted_alike Waste r s z h = ap (λ (w : SawReport). record { copies = w.copies; pieces = w.pieces; waste = w.waste + area r; trim = w.trim; sawdust = w.sawdust }) h
  counted_alike (Piece k) r s z h = ap (laid_more k (laid J (laid.upright k)) r) h
  counted_alike (Turned k) r s z h = ap (laid_more k (laid J (laid.turned k)) r) h
  counted_alike (Cut d x) r s z h = ap (λ (w : SawReport). record { copies = w.copies; pieces = w.pieces; waste = w.waste; trim = w.trim; sawdust = w.sawdust + J.kerf * breadth d r }) h

  walk_alike : (ns : List (ℕ × ℕ)) (k : ℕ) (rs : List Rect) (s z : Report) → without_profit s ≡ without_profit z → saw_of (walk J k ns rs s) ≡ saw_of (walk (at_prices price J) k ns rs z)
  unfolding walk
  walk_alike [] k [] s z h = ap (λ w. Ok w) h
  walk_alike [] k (r ∷ rs) s z h = refl
  walk_alike (n ∷ ns) k [] s z h = refl
  walk_alike (n ∷ ns) k (r ∷ rs) s z h =
      let m = node_of n.0 n.1 in
      let after = walk J (k + 1) ns (parts J.kerf m r ++ rs) (report_after J m r s) in
      ap (λ c. saw_of (proceed (first_refusal (node_checks J c r k n.0 n.1)) after)) (ap (λ (w : SawReport). w.copies) h)
      ∙ proceed_alike (first_refusal (node_checks J z.copies r k n.0 n.1)) after _ (walk_alike ns (k + 1) (parts J.kerf m r ++ rs) (report_after J m r s) (report_after (at_prices price J) m r z) (counted_alike m r s z h))

  -- whatever the prices, the plan check gives the same verdict, copies and areas
  plan_alike : (kinds operands : List ℕ) → saw_of (plan_answer J kinds operands) ≡ saw_of (plan_answer (at_prices price J) kinds operands)
  unfolding plan_answer walk_answer
  plan_alike kinds operands =
      let w = proceed_alike (first_refusal (plan_checks kinds operands)) _ _ (walk_alike (nodes_in kinds operands) 0 (J.plate ∷ []) empty_report empty_report refl) in
      let v = sym (sawn_verdict (walk_answer J kinds operands)) ∙ ap verdict_of w ∙ sawn_verdict (walk_answer (at_prices price J) kinds operands) in
      ap (λ v. saw_of (proceed (next v (first_refusal (idle_checks 0 kinds))) (walk_answer J kinds operands))) v
      ∙ proceed_alike (next (verdict_of (walk_answer (at_prices price J) kinds operands)) (first_refusal (idle_checks 0 kinds))) (walk_answer J kinds operands) (walk_answer (at_prices price J) kinds operands) w

-- a verdict that is no 6
abbrev NotPrice : Checked → Type 0
NotPrice v = (k : ℕ) → v ≡ Err (Price k) → ⊥

next_alike : (v a b : Checked) → (NotPrice a → a ≡ b) → NotPrice (next v a) → next v a ≡ next v b
next_alike (Ok _) a b f h = f h
next_alike (Err r) a b f h = refl

alike_next : (a b g : Checked) → (NotPrice a → a ≡ b) → NotPrice (next a g) → next a g ≡ next b g
alike_next (Ok _) b g f h = ap (λ v. next v g) (f (λ k e. no_pass (sym e)))
alike_next (Err r) b g f h = ap (λ v. next v g) (f h)

-- the pairs decide alike with and without their prices
pairs_alike : (h : ℕ) (s : List ℕ) (i n : ℕ) → NotPrice (first_refusal (each_kind (pair_checks h s) i n)) → first_refusal (each_kind (pair_checks h s) i n) ≡ first_refusal (each_kind (demand_checks h s) i n)
unfolding each_kind first_refusal
pairs_alike h s i zero f = refl
pairs_alike h s i (suc n) f = go (ltb most_price (price_at h s i)) (ltb most_demand (demand_at h s i)) _ _ (pairs_alike h s (suc i) n) f
  where
    go : (p d : Bool) (a b : Checked) → (NotPrice a → a ≡ b) → NotPrice (next (refuse_when p (Price i)) (next (refuse_when d (Demand i)) a))
        → next (refuse_when p (Price i)) (next (refuse_when d (Demand i)) a) ≡ next (refuse_when d (Demand i)) b
    go true d a b g f = absurd (f i refl)
    go false d a b g f = next_alike (refuse_when d (Demand i)) a b g f

module _ (s : List ℕ) (choices : Choices) where
  checks_alike : NotPrice (first_refusal (job_checks s choices)) → first_refusal (job_checks s choices) ≡ first_refusal (saw_checks s choices)
  unfolding job_checks saw_checks
  checks_alike f =
      let end = sizes_end choices.old_block in
      let header = first_refusal (header_checks choices s) in
      let sizes = first_refusal (each_kind (λ i. size_check end s i ∷ []) 0 (count_at s)) in
      let pairs = first_refusal (each_kind (pair_checks end s) 0 (count_at s)) in
      let demands = first_refusal (each_kind (demand_checks end s) 0 (count_at s)) in
      let grains = first_refusal (grain_checks choices.grain end s) in
      let p = block_parts header_checks pair_checks s choices in
      p
      ∙ next_alike header (next sizes (next pairs grains)) (next sizes (next demands grains)) (next_alike sizes (next pairs grains) (next demands grains) (alike_next pairs demands grains (pairs_alike end s 0 (count_at s)))) (λ k e. f k (p ∙ e))
      ∙ sym (block_parts header_checks demand_checks s choices)

  module _ (kinds operands : List ℕ) where
    office_alike : NotPrice (verdict_of (arrays_answer s choices kinds operands)) → saw_answer s choices kinds operands ≡ saw_of (arrays_answer s choices kinds operands)
    office_alike f =
        let v = checks_alike (λ k e. f k (ap (λ v. verdict_of (proceed v (plan_answer (block_job s choices) kinds operands))) e)) in
        sym (ap (λ v. saw_of (proceed v (plan_answer (block_job s choices) kinds operands))) v
        ∙ proceed_alike (first_refusal (saw_checks s choices)) _ _ (plan_alike (block_job s choices) (saw_job s choices).price kinds operands))

    -- so an answer that equals the definition stands beside the office's
    pub beside : {a : Answer SawReport} → a ≡ saw_answer s choices kinds operands → BesideOffice s choices kinds operands a
    beside e = record { alike = λ f. e ∙ office_alike (λ k q. f k (refused_verdict (arrays_answer s choices kinds operands) q)); passed = λ p. e ∙ office_alike (λ k q. no_pass (sym q ∙ p)) }
