-- The plates that a whole order needs and the bound by multipliers: what the inner call promises gives its instance.
use Rattle.planner.proofs.Prelude.{◌≡◌, refl, sym, ◌∙◌, ap, ap₂, Bool, true, false, List, ℕ, ◌+◌, ◌-◌, ◌/◌, ltb, eqb, Length, Width, only, Job, widened, capacity, by_kind, InRange, range_solid, normal_listed, by_check, next, first_refusal, Choices, block_job, weight_in, passed_both, accepted_in_range, position_count, words_needed, fewest, Memory, accept_verdict, bound_held, PlatesReport, LagrangianReport, lowered_range, one_weight, bound_of, storage_checks, Relaxes, NotHeldBeside, NoFewer, CheaperNotHeld, worth_at, order_worth, plates_for, plates_values, NeededPromises, multiplier_in, lowered_job, multiplied_verdict, AllAccepted, lagrangian_values, as_lagrangian, LagrangianPromises, Fewest, Ok, Err, passed, Answer, BoundReport}
use Rattle.cutting.specs.Relaxation as relaxation
use Rattle.cutting.specs.Job as old_job
use Rattle.orders.specs.Orders as orders
use Rattle.bound.specs.Bound as bound
use Rattle.plates_needed.specs.Plates as needed
use Rattle.multipliers.specs.Multipliers as multipliers
use Rattle.planner.proofs.Figures.{recursion, figures_most, floors}
use Rattle.planner.proofs.Held.{one_sound, bound_is, one_held}
use Rattle.planner.proofs.Lent.{answers_by, stored_is, one_words, one_leaves}
use Rattle.planner.proofs.Bounds.{one_stored, bound_from}
use Rattle.planner.proofs.Models.{none_from}

plates_is : (b c : ℕ) → plates_for b c ≡ orders.plates_for b c
plates_is b c = go (eqb b 0)
  where
    go : (e : Bool) → elim e [ true ↦ only (ltb 0 c) 18446744073709551615 | false ↦ (c + (b - 1)) / b ] ≡ orders.plates_by e b c
    go true = refl
    go false = refl

beside_new : (J : Job) (n other : ℕ) → orders.NotHeldBeside J n other → NotHeldBeside J n other
beside_new J n other h = record { whole = h.whole; finer = h.finer }

relaxes_old : (J M : Job) → Relaxes J M → relaxation.Relaxes J M
relaxes_old J M r = record { counts = r.counts; prices = r.prices; demands = r.demands; lies = r.lies; chains = r.chains }

fewest_new : (b c n : ℕ) → orders.Fewest b c n → Fewest b c n
fewest_new b c n f = record { enough = f.enough; least = f.least; none = f.none; never = f.never }

fewer_new : (M : Job) (n other : ℕ) → orders.NoFewer M n other → NoFewer M n other
fewer_new M n other h = record { own = λ m l. beside_new M m other (h.own m l); modelled = λ J k r m l. beside_new J m other (h.modelled J k (relaxes_old J M r) m l) }

types_new : (J : Job) → orders.CheaperNotHeld J → CheaperNotHeld J
types_new J h k rect cost bounds n type known less =
    let u = h k rect cost (λ r l. ((λ t g d. (bounds r l).0 t g tt d), (λ m p t g d. (bounds r l).1 m p t g tt d))) n type known less in
    record { whole = u.whole; finer = u.finer }

module _ (s : List ℕ) (choices : Choices) (ws : List ℕ) (other : ℕ) (m n : Memory) (r : Answer PlatesReport) (p : needed.NeededPromises s choices ws other m n r) where
  abbrev J : Job
  J = block_job s choices

  abbrev weight : ℕ → ℕ
  weight = weight_in ws

  -- the inner call's number of plates
  count_is : orders.plates_needed J (old_job.bound_of J weight) other ≡ plates_for (bound_of J weight) (order_worth J - other)
  count_is = ap (λ b. orders.plates_for b (order_worth J - other)) (sym (bound_is J weight)) ∙ sym (plates_is (bound_of J weight) (order_worth J - other))

  abbrev reported : PlatesReport
  reported = record { plates = plates_for (bound_of J weight) (order_worth J - other); bound = bound_of J weight; worth = order_worth J }

  report_is : needed.block_plates s choices ws other ≡ reported
  report_is = λ i. record { plates = count_is i; bound = sym (bound_is J weight) i; worth = order_worth J }

  pub needed_new : NeededPromises s choices ws other m n r
  needed_new = record {
    bound = bound.bound_answer s choices ws m;
    bounds = bound_from s choices ws m n (bound.bound_answer s choices ws m) refl p.memory (λ a. bound_held J weight (accepted_in_range s choices ws a));
    answers = answers_by plates_values (next (accept_verdict s choices ws) (first_refusal (storage_checks J (one_weight weight J) m))) reported r
        (p.answers ∙ ap₂ (λ v b. by_check (next (accept_verdict s choices ws) v) (Ok b) Err) (one_stored s choices ws m) report_is);
    fewest = rw (plates_is (bound_of J weight) (order_worth J - other)) (fewest_new _ _ _ (fewest (bound_of J weight) (order_worth J - other)));
    no_fewer = λ a. rw⁻¹ count_is (fewer_new J (orders.plates_needed J (old_job.bound_of J weight) other) other (p.accepted a).no_fewer);
    types = types_new J p.types;
  }

module _ (s : List ℕ) (choices : Choices) (ws ms : List ℕ) (m n : Memory) (r : Answer LagrangianReport) (p : multipliers.LagrangianPromises s choices ws ms m n r) where
  abbrev K : Job
  K = block_job s choices

  -- the lowered job
  abbrev L : Job
  L = lowered_job s choices ms

  abbrev by : ℕ → ℕ
  by = weight_in ws

  range : AllAccepted s choices ws ms → InRange L
  range a = lowered_range K (multiplier_in ms) (accepted_in_range s choices ws (passed_both (accept_verdict s choices ws) (first_refusal (multipliers.multiplier_checks K.count ms)) a).0)

  low_stored : first_refusal (bound.memory_checks (widened L) (capacity L by) m) ≡ first_refusal (storage_checks L (one_weight by L) m)
  low_stored = stored_is passed L (one_weight by L) m m (words_needed (widened L) (capacity L by)) (one_words L by)

  -- a report with this bound of the lowered job
  abbrev low_report : ℕ → LagrangianReport
  low_report b = record { lagrangian = b + worth_at K (multiplier_in ms); lowered = record { bound = b; capacity = capacity L by; length_count = position_count (widened L) Length; columns = position_count (widened L) Width } }

  as_is : (b : Answer BoundReport) → multipliers.as_lagrangian b ≡ as_lagrangian b
  as_is (Ok b) = refl
  as_is (Err x) = refl

  pub lagrangian_new : LagrangianPromises s choices ws ms m n r
  lagrangian_new = record {
    answers = answers_by lagrangian_values (next (multiplied_verdict s choices ws ms) (first_refusal (storage_checks L (one_weight by L) m))) (low_report (bound_of L by)) r
        (p.answers ∙ ap₂ (λ v b. by_check (next (multiplied_verdict s choices ws ms) v) (Ok (low_report b)) Err) low_stored (sym (bound_is L by)));
    fills = record {
      memory = one_leaves (multiplied_verdict s choices ws ms) L by m n p.memory;
      normal = normal_listed (widened L);
      recursion = recursion (widened L) (by_kind by);
      holds = λ a. one_held L by (p.accepted a).lowered_holds;
      figures = λ a. figures_most L (one_weight by L) (range_solid L (range a)) (one_sound L by);
      floors = λ a. floors L (one_weight by L) (range_solid L (range a)) (one_sound L by);
    };
    held = λ a. (let h = (p.accepted a).lowered_holds in (h.held, h.full_capacity));
    demands = λ a. (let h = p.accepted a in rw (bound_is L by) (none_from K (old_job.bound_of L by + worth_at K (multiplier_in ms)) (h.demands, h.finer)));
    modelled = λ a T x. rw (bound_is L by) (none_from T (old_job.bound_of L by + worth_at K (multiplier_in ms)) ((p.accepted a).modelled T (relaxes_old T K x)));
    alone = λ e z. (let o = p.bound_alone e z in (
      bound.bound_answer s choices ws m,
      bound_from s choices ws m n (bound.bound_answer s choices ws m) refl o.1 (λ a. bound_held K by (accepted_in_range s choices ws a)),
      o.0 ∙ as_is (bound.bound_answer s choices ws m),
    ));
  }
