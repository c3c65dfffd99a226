-- The table of marked examples holds: what is left to compute of each line, the law that a line so computed holds, and the computations.
use Rattle.examples.proofs.Prelude.{◌≡◌, refl, ◌∙◌, ap, subst, false, ◌⊎◌, inl, inr, List, [], ◌∷◌, List-as-Memᴰ, List·Memᴰ·not-nil, List·Memᴰ·cases-cons, ℕ, ◌≤◌, arith, le-ltb, Direction, Length, Width, most_limit, range, sum, filter, each, any, greatest, total, leaf, best, step, after, figure, sized, floor, saw_normal, saw_written, by_weight, stages, stages_below, NoneAbove, changes, along, block, staged_bound, NoneStaged, summed, normal?, sides, choice, plan_within, written, sawn, preorder, kinds_of, operands_of, node_count, used, neat, finer, ordered, members, pieces, normal_positions, lossless_plan, plan_of, first_refusal, staged_words, wide_job, bound_values, staged_block_report, outside, price_at, demand_at, each_kind, job_checks, entries, record_of, block_job, weight_in, Accepted, pieceless, idle_checks, walk, walk_answer, plan_answer, trees_in, JobPasses, saw_checks, extent, node_paths, above_checks, block_neat, block_plan, compared, plan_profit, Example, old_block, RefusedAs, PassedTo, ExampleHolds, misfit_job, marked, Ok, passed, verdict_of}
use Rattle.examples.specs.Examples as line
use Rattle.examples.proofs.Calls as call
use Rattle.examples.proofs.Calls.{capacity_in, words_in, bound_in, values_in, certificate_in}
use Rattle.examples.proofs.Plans.{first_verdict, begins_refused, begins_passed}
use Rattle.examples.proofs.Misfit as misfit

-- what is left to compute of a line
abbrev Computed : Example → Type 0
Computed (line.positions s d xs) = ExampleHolds (line.positions s d xs)
Computed (line.bounds choices s ws words bound q p r) = Accepted s choices ws × (words_in choices s ws ≡ words) × (values_in choices s ws ≡ bound ∷ q ∷ p ∷ r ∷ [])
Computed (line.writes choices s ws words bound q p r nodes kinds operands) =
    Accepted s choices ws × (words_in choices s ws ≡ words) × (values_in choices s ws ≡ bound ∷ q ∷ p ∷ r ∷ []) × (node_count (block_plan s choices ws) ≡ nodes) × (nodes ≤ 4095)
    × (kinds_of (block_plan s choices ws) ≡ kinds) × (operands_of (block_plan s choices ws) ≡ operands)
Computed (line.passes choices s kinds operands profit copies pieces waste trim sawdust) = ExampleHolds (line.passes choices s kinds operands profit copies pieces waste trim sawdust)
Computed (line.refused s kinds operands number place) = ExampleHolds (line.refused s kinds operands number place)
Computed (line.first_refused s kind operand number place) = JobPasses s old_block × RefusedAs number place (first_verdict (block_job s old_block) kind operand)
Computed (line.first_passes s kind operand) = JobPasses s old_block × PassedTo 0 (first_verdict (block_job s old_block) kind operand)
Computed (line.certifies choices s ws kinds operands words certificate gap bound profit) =
    Accepted s choices ws × (words_in choices s ws ≡ words) × (verdict_of (plan_answer (block_job s choices) kinds operands) ≡ passed)
    × (compared (plan_profit (block_job s choices) kinds operands) (bound_in choices s ws) ≡ certificate) × (certificate_in choices s ws kinds operands ≡ gap ∷ bound ∷ profit ∷ [])
Computed (line.neatens s kinds operands nodes neat_kinds neat_operands) =
    JobPasses s old_block × (verdict_of (plan_answer (block_job s old_block) kinds operands) ≡ passed) × (node_count (block_neat s old_block kinds operands) ≡ nodes)
    × (kinds_of (block_neat s old_block kinds operands) ≡ neat_kinds) × (operands_of (block_neat s old_block kinds operands) ≡ neat_operands)
Computed (line.saw_passes s kinds operands pieces waste trim copies sawdust) = ExampleHolds (line.saw_passes s kinds operands pieces waste trim copies sawdust)
Computed (line.part s kinds operands node first entries) = ExampleHolds (line.part s kinds operands node first entries)
Computed (line.stages_pass s limit kinds operands profit pieces waste trim copies sawdust stages) = ExampleHolds (line.stages_pass s limit kinds operands profit pieces waste trim copies sawdust stages)
Computed (line.stages_refused s limit kinds operands number place) = ExampleHolds (line.stages_refused s limit kinds operands number place)
Computed (line.stages_bound s ws limit words bound q p r) =
    Accepted s old_block ws × (outside 1 most_limit limit ≡ false) × (staged_words (wide_job s old_block) (capacity_in old_block s ws) limit ≡ words) × (bound_values (staged_block_report s old_block ws limit) ≡ bound ∷ q ∷ p ∷ r ∷ [])
Computed (line.finer_most choices s ws m most) = Accepted s choices ws × (1 ≤ m) × (bound_in choices s ws ≡ most)
Computed (line.finer_stages s ws limit m most) = Accepted s old_block ws × (1 ≤ m) × (staged_bound (block_job s old_block) (weight_in ws) limit ≡ most)
Computed (line.finer_passes s m kinds operands profit neat_kinds neat_operands) = ExampleHolds (line.finer_passes s m kinds operands profit neat_kinds neat_operands)
Computed (line.whatever e) = (pair ws : List ℕ) → Accepted (misfit_job pair) old_block ws → Computed (e pair ws)

-- a line holds from what is computed of it
holds : (e : Example) → Computed e → ExampleHolds e
holds (line.positions s d xs) c = c
holds (line.bounds choices s ws words bound q p r) c = (
  λ m h. call.bound_answered choices s ws c.0 m (rw c.1 h) ∙ ap (λ vs. (0, vs)) c.2,
  λ m h. call.bound_refused choices s ws c.0 m (rw c.1 h) ∙ ap (λ n. (20, n ∷ [])) c.1,
)
holds (line.writes choices s ws words bound q p r nodes kinds operands) c =
    (λ m ks os h k o. call.written choices s ws c.0 m (rw c.1 h) ks os (rw c.3 c.4) (rw c.3 k) (rw c.3 o) ∙ cc, c.5, c.6)
holds (line.passes choices s kinds operands profit copies pieces waste trim sawdust) c = c
holds (line.refused s kinds operands number place) c = c
holds (line.first_refused s kind operand number place) c = begins_refused s c.0 kind operand number place c.1
holds (line.first_passes s kind operand) c = begins_passed s c.0 kind operand c.1
holds (line.certifies choices s ws kinds operands words certificate gap bound profit) c =
    λ m h. (call.judged choices s ws c.0 m (rw c.1 h) kinds operands c.2 ∙ ap Ok c.3, call.certified choices s ws c.0 m (rw c.1 h) kinds operands c.2 ∙ ap (λ vs. (0, vs)) c.4)
holds (line.neatens s kinds operands nodes neat_kinds neat_operands) c = (λ ks os k o. call.neatened s c.0 kinds operands c.1 ks os (rw c.2 k) (rw c.2 o) ∙ ap (λ n. (0, n ∷ [])) c.2, c.3, c.4)
holds (line.saw_passes s kinds operands pieces waste trim copies sawdust) c = c
holds (line.part s kinds operands node first entries) c = c
holds (line.stages_pass s limit kinds operands profit pieces waste trim copies sawdust stages) c = c
holds (line.stages_refused s limit kinds operands number place) c = c
holds (line.stages_bound s ws limit words bound q p r) c = λ m h. call.staged_answered s ws limit c.0 c.1 m (rw c.2 h) ∙ ap (λ vs. (0, vs)) c.3
holds (line.finer_most choices s ws m most) c = (call.bound_normal choices s ws c.0 ∙ c.2, subst (NoneAbove (finer m (block_job s choices))) c.2 (call.finer_below choices s ws c.0 m c.1))
holds (line.finer_stages s ws limit m most) c = (c.2, subst (NoneStaged (finer m (block_job s old_block)) limit) c.2 (call.staged_below s ws limit c.0 m c.1))
holds (line.finer_passes s m kinds operands profit neat_kinds neat_operands) c = c
holds (line.whatever e) c = λ pair ws good. holds (e pair ws) (c pair ws good)

-- the computations of lines, in their order
data AllComputed : List Example → Type 0 where
  done : AllComputed []
  more : {e : Example} {es : List Example} → Computed e → AllComputed es → AllComputed (e ∷ es)

infixr 5 ◌and◌
-- the same as an operator
◌and◌ : {e : Example} {es : List Example} → Computed e → AllComputed es → AllComputed (e ∷ es)
c and cs = more c cs

-- every line so computed holds
all_hold : {e : Example} (es : List Example) → AllComputed es → List-as-Memᴰ e es → ExampleHolds e
all_hold [] done m = absurd (List·Memᴰ·not-nil m)
all_hold {e} (x ∷ xs) (more c cs) m = go (List·Memᴰ·cases-cons m) (λ (k : List-as-Memᴰ e xs). all_hold xs cs k)
  where
    go : (e ≡ x) ⊎ List-as-Memᴰ e xs → (List-as-Memᴰ e xs → ExampleHolds e) → ExampleHolds e
    go (inl i) f = rw i (holds x c)
    go (inr k) f = f k

module _ (a b c d e f weight : ℕ) where
  -- the kind 2 by 2 with these bytes of price and demand
  abbrev priced : List ℕ
  priced = misfit_job (a ∷ b ∷ c ∷ d ∷ e ∷ f ∷ [])

  -- it is accepted where its price and its demand are in range
  pub misfit_accepted : price_at 6 priced 0 ≤ 1000000 → demand_at 6 priced 0 ≤ 255 → Accepted priced old_block (weight ∷ [])
  unfolding range sum first_refusal each_kind job_checks entries record_of
  misfit_accepted price demand = simp (le-ltb 1000000 (price_at 6 priced 0) price, le-ltb 255 (demand_at 6 priced 0) demand, misfit.none_weighed (demand_at 6 priced 0) weight)

-- what is computed of the lines whose price, demand and weight are free
misfit_bounds : Computed (line.whatever (λ pair ws. line.bounds old_block (misfit_job pair) ws 1 0 0 1 1))
misfit_bounds pair ws good = (good, misfit.words pair ws, misfit.values pair ws)

misfit_positions : (d : Direction) → Computed (line.whatever (λ pair ws. line.positions (misfit_job pair) d (0 ∷ [])))
misfit_positions d pair ws good = misfit.alone pair ws d

misfit_writes : Computed (line.whatever (λ pair ws. line.writes old_block (misfit_job pair) ws 1 0 0 1 1 1 (0 ∷ []) (0 ∷ [])))
unfolding preorder kinds_of operands_of node_count
misfit_writes pair ws good = (
  good,
  misfit.words pair ws,
  misfit.values pair ws,
  ap node_count (misfit.wasted pair ws),
  omega arith,
  ap kinds_of (misfit.wasted pair ws),
  ap operands_of (misfit.wasted pair ws),
)

-- the table's computations, line by line
computed : AllComputed marked
unfolding marked range sum filter each any greatest leaf best step after figure sized floor saw_normal saw_written by_weight summed normal? sides choice plan_within written sawn lossless_plan preorder kinds_of operands_of node_count ordered members pieces normal_positions plan_of first_refusal each_kind job_checks entries record_of walk walk_answer pieceless idle_checks plan_answer total trees_in used neat saw_checks extent stages stages_below changes node_paths above_checks along block
computed =
    refl
    and refl
    and (refl, refl, refl)
    and (refl, refl, refl)
    and refl
    and (refl, refl, refl, refl, refl)
    and (refl, refl, refl, refl, refl)
    and refl
    and refl
    and refl
    and (refl, refl)
    and (refl, tt)
    and refl
    and refl
    and refl
    and refl
    and refl
    and misfit_bounds
    and misfit_positions Length
    and misfit_positions Width
    and misfit_writes
    and (refl, refl, refl)
    and (refl, refl, refl, refl, omega arith, refl, refl)
    and (refl, refl, refl)
    and (refl, refl, refl)
    and (refl, refl, refl, refl, refl)
    and (refl, refl, refl, refl, refl)
    and (refl, refl, refl)
    and (refl, refl, refl)
    and refl
    and (refl, refl, refl, refl, refl)
    and refl
    and refl
    and (refl, refl)
    and (refl, refl)
    and refl
    and refl
    and (refl, refl, refl, refl)
    and (refl, refl, refl, refl)
    and (refl, omega arith, refl)
    and (refl, omega arith, refl)
    and (refl, omega arith, refl)
    and (refl, omega arith, refl)
    and (refl, omega arith, refl)
    and (refl, refl, refl)
    and done

-- every marked example holds
pub marked_hold : (e : Example) → List-as-Memᴰ e marked → ExampleHolds e
marked_hold e m = all_hold marked computed m
