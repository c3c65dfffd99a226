-- The saw never gives 6: no check of its own, and none of a plan, has that number.
use Rattle.saw.proofs.Prelude.{sym, subst, verdict_of, Bool, true, false, List, [], ◌∷◌, ◌++◌, ℕ, zero, suc, ◌+◌, arith, Rect, Job, Refusal, Check, next, refuse_when, first_refusal, Choices, sizes_end, count_at, header_checks, size_check, each_kind, array_checks, grain_check, grain_checks, idle_checks, Report, node_of, node_checks, parts, report_after, empty_report, proceed, walk, plan_checks, nodes_in, walk_answer, plan_answer, NeverSix, demand_checks, saw_checks, saw_job, saw_answer, Ok, Err, Checked, Answer}
use Rattle.saw.proofs.Sawn.{sawn_verdict}

-- none of a list of checks has number 6
abbrev NoneSix : List Check → Type 0
NoneSix [] = Unit
NoneSix (c ∷ cs) = NeverSix (Err c.1) × NoneSix cs

next_never : (v w : Checked) → NeverSix v → NeverSix w → NeverSix (next v w)
next_never (Ok _) w f g = g
next_never (Err r) w f g = f

when_never : (b : Bool) (r : Refusal) → NeverSix (Err r) → NeverSix (refuse_when b r)
when_never true r f = f
when_never false r f = λ e. omega arith

-- so none of them gives 6
checks_never : (cs : List Check) → NoneSix cs → NeverSix (first_refusal cs)
unfolding first_refusal
checks_never [] u = λ e. omega arith
checks_never (c ∷ cs) u = next_never (refuse_when c.0 c.1) (first_refusal cs) (when_never c.0 c.1 u.0) (checks_never cs u.1)

none_append : (cs ds : List Check) → NoneSix cs → NoneSix ds → NoneSix (cs ++ ds)
none_append [] ds u v = v
none_append (c ∷ cs) ds u v = (u.0, none_append cs ds u.1 v)

none_each : (f : ℕ → List Check) (i n : ℕ) → ((k : ℕ) → NoneSix (f k)) → NoneSix (each_kind f i n)
unfolding each_kind
none_each f i zero h = tt
none_each f i (suc n) h = none_append (f i) (each_kind f (suc i) n) (h i) (none_each f (suc i) n h)

none_idle : (k : ℕ) (kinds : List ℕ) → NoneSix (idle_checks k kinds)
unfolding idle_checks
none_idle k [] = tt
none_idle k (n ∷ ns) = (λ e. omega arith, none_idle (k + 1) ns)

proceed_never : (v : Checked) (a : Answer Report) → NeverSix v → NeverSix (verdict_of a) → NeverSix (verdict_of (proceed v a))
proceed_never (Ok _) a f g = g
proceed_never (Err r) a f g = f

module _ (J : Job) where
  node_never : (copies : List ℕ) (r : Rect) (k kind operand : ℕ) → NeverSix (first_refusal (node_checks J copies r k kind operand))
  node_never copies r k kind operand = checks_never (node_checks J copies r k kind operand) (λ e. omega arith, (λ e. omega arith, (λ e. omega arith, (λ e. omega arith, (λ e. omega arith, (λ e. omega arith, tt))))))

  walk_never : (ns : List (ℕ × ℕ)) (k : ℕ) (rs : List Rect) (s : Report) → NeverSix (verdict_of (walk J k ns rs s))
  unfolding walk
  walk_never [] k [] s = λ e. omega arith
  walk_never [] k (r ∷ rs) s = λ e. omega arith
  walk_never (n ∷ ns) k [] s = λ e. omega arith
  walk_never (n ∷ ns) k (r ∷ rs) s =
      let m = node_of n.0 n.1 in
      proceed_never (first_refusal (node_checks J s.copies r k n.0 n.1)) _ (node_never s.copies r k n.0 n.1) (walk_never ns (k + 1) (parts J.kerf m r ++ rs) (report_after J m r s))

  walked_never : (kinds operands : List ℕ) → NeverSix (verdict_of (walk_answer J kinds operands))
  unfolding walk_answer
  walked_never kinds operands = proceed_never (first_refusal (plan_checks kinds operands)) _ (checks_never (plan_checks kinds operands) (λ e. omega arith, (λ e. omega arith, tt))) (walk_never (nodes_in kinds operands) 0 (J.plate ∷ []) empty_report)

  plan_never : (kinds operands : List ℕ) → NeverSix (verdict_of (plan_answer J kinds operands))
  unfolding plan_answer
  plan_never kinds operands =
      let w = walked_never kinds operands in
      proceed_never (next (verdict_of (walk_answer J kinds operands)) (first_refusal (idle_checks 0 kinds))) (walk_answer J kinds operands) (next_never (verdict_of (walk_answer J kinds operands)) (first_refusal (idle_checks 0 kinds)) w (checks_never (idle_checks 0 kinds) (none_idle 0 kinds))) w

module _ (s : List ℕ) (choices : Choices) where
  pub read_never : NeverSix (first_refusal (saw_checks s choices))
  unfolding saw_checks
  read_never =
      let end = sizes_end choices.old_block in
      let sizes = none_each (λ i. size_check end s i ∷ []) 0 (count_at s) (λ k. (λ e. omega arith, tt)) in
      let demands = none_each (demand_checks end s) 0 (count_at s) (λ k. (λ e. omega arith, tt)) in
      let header : NoneSix (header_checks choices s) = (λ e. omega arith, (λ e. omega arith, (λ e. omega arith, (λ e. omega arith, (λ e. omega arith, tt))))) in
      checks_never (saw_checks s choices) (none_append (header_checks choices s) (array_checks (demand_checks end s) choices.grain end s) header (none_append (each_kind (λ i. size_check end s i ∷ []) 0 (count_at s)) (each_kind (demand_checks end s) 0 (count_at s) ++ grain_checks choices.grain end s) sizes (none_append (each_kind (demand_checks end s) 0 (count_at s)) (grain_checks choices.grain end s) demands (grains choices.grain))))
    where
      grains : (b : Bool) → NoneSix (grain_checks b (sizes_end choices.old_block) s)
      grains true = none_each (λ i. grain_check (sizes_end choices.old_block) s i ∷ []) 0 (count_at s) (λ k. (λ e. omega arith, tt))
      grains false = tt

  pub saw_never : (kinds operands : List ℕ) → NeverSix (verdict_of (saw_answer s choices kinds operands))
  saw_never kinds operands = subst NeverSix (sym (sawn_verdict (proceed (first_refusal (saw_checks s choices)) (plan_answer (saw_job s choices) kinds operands))))
      (proceed_never (first_refusal (saw_checks s choices)) (plan_answer (saw_job s choices) kinds operands) read_never (plan_never (saw_job s choices) kinds operands))
