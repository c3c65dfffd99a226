-- What the bound calls, the writing and certificate calls answer on an accepted job block and weights, and the neat call on a plan that passes, where
-- the lengths of what is lent are known.
-- The bound comes from cuts at normal positions, which are quick to compute; cuts at every unit take long.
use Rattle.examples.proofs.Prelude.{◌≡◌, subst, false, ◌||◌, List, [], ◌∷◌, ◌++◌, ℕ, ◌+◌, ◌-◌, ◌≤◌, arith, ltb, length, lt-ltb, le-ltb, Length, Width, most_limit, figure, saw_normal, node_count, capacity, pieces, by_kind, bound_of, normal_side, range_solid, widened_solid, NoneFiner, staged_bound, NoneStagedFiner, staged_finer, staged_holds, figure_normal, first_refusal, TableShort, Choices, outside, block_job, weight_in, Accepted, accepted_in_range, plan_answer, JobPasses, block_neat, neat_said, position_count, words_needed, staged_words, Memory, wide_job, memory_checks, bound_said, bound_values, bound_held, staged_block_report, staged_said, block_plan, write_said, compared, plan_profit, certificate_of, certificate_said, old_block, LongLists, Enough, TooShort, Ok, Err, passed, verdict_of}

module _ (choices : Choices) (s ws : List ℕ) where
  -- the capacity of a job block and weights
  abbrev pub capacity_in : ℕ
  capacity_in = capacity (block_job s choices) (weight_in ws)

  -- the table words that they need
  abbrev pub words_in : ℕ
  words_in = words_needed (wide_job s choices) capacity_in

  -- their bound from cuts at normal positions
  abbrev pub bound_in : ℕ
  bound_in = figure (pieces (wide_job s choices)) (saw_normal (normal_side (wide_job s choices))) (by_kind (weight_in ws)) (wide_job s choices).plate capacity_in

  -- the values of their bound
  abbrev pub values_in : List ℕ
  values_in = bound_in ∷ capacity_in ∷ position_count (wide_job s choices) Length ∷ position_count (wide_job s choices) Width ∷ []

  -- the values of a plan's certificate: the gap, the bound and the profit
  abbrev pub certificate_in : (kinds operands : List ℕ) → List ℕ
  certificate_in kinds operands =
      let profit = plan_profit (block_job s choices) kinds operands in
      (bound_in - profit) ∷ bound_in ∷ profit ∷ []

  module _ (good : Accepted s choices ws) where
    pub bound_normal : bound_of (block_job s choices) (weight_in ws) ≡ bound_in
    bound_normal = figure_normal (wide_job s choices) (weight_in ws) (widened_solid (block_job s choices) (range_solid (block_job s choices) (accepted_in_range s choices ws good))) _ _ capacity_in (omega arith) (omega arith)

    -- no tree cut finer that keeps the demands earns more
    pub finer_below : NoneFiner (block_job s choices) bound_in
    finer_below = subst (NoneFiner (block_job s choices)) bound_normal (bound_held (block_job s choices) (weight_in ws) (accepted_in_range s choices ws good)).finer

    module _ (m : Memory) where
      -- check 19 passes
      lists_pass : LongLists s choices m → (ltb (length m.lengths) ((wide_job s choices).plate.0 + 1) || ltb (length m.widths) ((wide_job s choices).plate.1 + 1)) ≡ false
      lists_pass h = simp (le-ltb (length m.lengths) ((wide_job s choices).plate.0 + 1) (omega (arith, h)), le-ltb (length m.widths) ((wide_job s choices).plate.1 + 1) (omega (arith, h)))

      -- check 20 refuses
      table_short : TooShort s choices words_in m → first_refusal (memory_checks (wide_job s choices) capacity_in m) ≡ Err (TableShort words_in)
      unfolding first_refusal
      table_short h = simp (lists_pass h.0, lt-ltb (length m.table) words_in h.1)

      pub bound_refused : TooShort s choices words_in m → bound_said s choices ws m ≡ (20, words_in ∷ [])
      bound_refused h = simp (good, table_short h)

      module _ (enough : Enough s choices words_in m) where
        -- both pass
        storage_passes : first_refusal (memory_checks (wide_job s choices) capacity_in m) ≡ passed
        unfolding first_refusal
        storage_passes = simp (lists_pass enough.0, le-ltb (length m.table) words_in enough.1)

        pub bound_answered : bound_said s choices ws m ≡ (0, values_in)
        bound_answered = simp (good, storage_passes, bound_normal)

        pub judged : (kinds operands : List ℕ) → verdict_of (plan_answer (block_job s choices) kinds operands) ≡ passed
            → certificate_of s choices ws kinds operands m ≡ Ok (compared (plan_profit (block_job s choices) kinds operands) bound_in)
        judged kinds operands e = simp (good, e, storage_passes, bound_normal)

        pub certified : (kinds operands : List ℕ) → verdict_of (plan_answer (block_job s choices) kinds operands) ≡ passed
            → certificate_said s choices ws kinds operands m ≡ (0, certificate_in kinds operands)
        certified kinds operands e = simp (good, e, storage_passes, bound_normal)

        pub written : (kinds operands : List ℕ) → node_count (block_plan s choices ws) ≤ 4095 → node_count (block_plan s choices ws) ≤ length kinds → node_count (block_plan s choices ws) ≤ length operands
            → write_said s choices ws m kinds operands ≡ (0, values_in ++ node_count (block_plan s choices ws) ∷ [])
        unfolding first_refusal
        written kinds operands h k o = simp (good, storage_passes, bound_normal, le-ltb 4095 (node_count (block_plan s choices ws)) h, le-ltb (length kinds) (node_count (block_plan s choices ws)) k, le-ltb (length operands) (node_count (block_plan s choices ws)) o)

-- the neat call answers the node count where the output arrays are long enough
pub neatened : (s : List ℕ) → JobPasses s old_block → (kinds operands : List ℕ) → verdict_of (plan_answer (block_job s old_block) kinds operands) ≡ passed
    → (ks os : List ℕ) → node_count (block_neat s old_block kinds operands) ≤ length ks → node_count (block_neat s old_block kinds operands) ≤ length os
    → neat_said s old_block kinds operands ks os ≡ (0, node_count (block_neat s old_block kinds operands) ∷ [])
unfolding first_refusal
neatened s good kinds operands e ks os k o = simp (good, e, le-ltb (length ks) (node_count (block_neat s old_block kinds operands)) k, le-ltb (length os) (node_count (block_neat s old_block kinds operands)) o)

-- the staged bound call, where its limit is within its range
pub staged_answered : (s ws : List ℕ) (limit : ℕ) → Accepted s old_block ws → outside 1 most_limit limit ≡ false → (m : Memory) → Enough s old_block (staged_words (wide_job s old_block) (capacity_in old_block s ws) limit) m
    → staged_said s old_block ws limit m ≡ (0, bound_values (staged_block_report s old_block ws limit))
unfolding first_refusal
staged_answered s ws limit good inside m h =
    simp (good, inside, lists_pass old_block s ws good m h.0, le-ltb (length m.table) (staged_words (wide_job s old_block) (capacity_in old_block s ws) limit) h.1)

-- no tree cut finer within a limit of stages that keeps the demands earns more than the staged bound
pub staged_below : (s ws : List ℕ) (limit : ℕ) → Accepted s old_block ws → NoneStagedFiner (block_job s old_block) limit (staged_bound (block_job s old_block) (weight_in ws) limit)
staged_below s ws limit good =
    let solid = range_solid (block_job s old_block) (accepted_in_range s old_block ws good) in
    staged_finer (block_job s old_block) solid limit _ (staged_holds (block_job s old_block) solid (weight_in ws) limit)
