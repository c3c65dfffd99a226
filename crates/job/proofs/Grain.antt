-- Without the choice of grain a job block is read as before there was grain.
use Rattle.job.proofs.Prelude.{◌≡◌, ◌∙◌, ap, false, not, List, [], ◌∷◌, ◌++◌, append-nil, ℕ, ◌+◌, ◌*◌, arith, ltb, eqb, length, get_or, most_kinds, most_kerf, turns, loose_turns, alike_members, alike_copies, KindCount, Kerf, BlockLength, Choices, count_at, kerf_at, sizes_end, kind_bytes, outside, size_check, each_kind, array_checks, grains_of, record_of, block_job, Ungrained}
use Rattle.job.proofs.Entries.{entries_past}

module _ (s : List ℕ) (choices : Choices) (none : choices.grain ≡ false) where
  -- no kind keeps its grain
  pub no_grain : (i : ℕ) → (block_job s choices).grain i ≡ false
  unfolding record_of
  no_grain i = ap (λ g. eqb (get_or (grains_of g (sizes_end choices.old_block) s) i 0) 1) none ∙ ap (λ n. eqb n 1) (entries_past (λ i. 0) 0 i (omega arith))

  as_turning : (i : ℕ) → turns (block_job s choices) i ≡ choices.turning
  unfolding record_of
  as_turning i = loose_turns (block_job s choices) no_grain i

  pub ungrained : Ungrained s choices
  ungrained = record {
    counts = ap (λ g. (outside 1 most_kinds (count_at s), KindCount) ∷ (ltb most_kerf (kerf_at choices.old_block s), Kerf)
        ∷ (not (eqb (length s) (sizes_end choices.old_block + kind_bytes g * count_at s)), BlockLength) ∷ []) none;
    arrays = λ pair h. ap (λ g. array_checks pair g h s) none ∙ ap (λ cs. each_kind (λ i. size_check h s i ∷ []) 0 (count_at s) ++ cs) (append-nil (each_kind pair 0 (count_at s)));
    turning = as_turning;
    pieces = alike_members (block_job s choices) choices.turning as_turning;
    copies = alike_copies (block_job s choices) choices.turning as_turning;
  }
