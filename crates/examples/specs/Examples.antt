-- The marked examples of the scope as one table, in its order. A job is its block's bytes, and each line says what a call answers on them,
-- as a number and values. That every line holds is `marked_hold` of proofs/Examples.
use Rattle.std.specs.Prelude.{◌≡◌, true, false, List, [], ◌∷◌, ◌++◌, ℕ, ◌-◌, ◌≤◌, ◌<◌, length, replicate, Ok}
use Rattle.std.specs.Result.{IsOkAnd, IsErrAnd, IfErr}
use Rattle.promises.specs.declared.Direction.{Direction}
use Rattle.promises.specs.declared.Direction.TheVariants.{Length, Width}
use Rattle.cutting.specs.Limits.{most_kinds, most_nodes}
use Rattle.cutting.specs.Job.{finer, bound_of, normal_positions}
use Rattle.cutting.specs.Preorder.{kinds_of, operands_of}
use Rattle.cutting.specs.Promises.{NoneAbove}
use Rattle.cutting.specs.Staged.{staged_bound, NoneStaged}
use Rattle.refusal.specs.Refusals.{Answer, number_of, place_of, refused_as}
use Rattle.promises.specs.declared.Choices.{Choices}
use Rattle.job.specs.Block.{with_full_demand}
use Rattle.job.specs.Weights.{block_job, weight_in, Accepted}
use Rattle.plan.specs.Plan.{plan_answer}
use Rattle.plan.specs.Calls.{arrays_answer}
use Rattle.saw.specs.Saw.{saw_said}
use Rattle.saw.specs.Parts.{node_part, part_said}
use Rattle.neat.specs.Neat.{block_neat, neat_said}
use Rattle.staged_plan.specs.Check.{staged_check_said}
use Rattle.bound.specs.Bound.{Memory, wide_job, bound_said}
use Rattle.staged_bound.specs.Staged.{staged_said}
use Rattle.writer.specs.Write.{block_plan, write_said}
use Rattle.promises.specs.declared.Certificate.{Certificate}
use Rattle.promises.specs.declared.Certificate.TheVariants.{Best, Gap}
use Rattle.certificate.specs.Certificate.{certificate_of, certificate_said}
use Rattle.promises.specs.declared.Report.{Report}

-- what a line can say of a call, with its choices where it weighs; a plan is given by its kinds and operands, and `words` are the table
-- words that a call needs
pub data Example : Type 0 where
  -- the normal positions of a side
  positions : (job : List ℕ) → Direction → List ℕ → Example
  -- the bound call answers the bound, Q, p and r
  bounds : Choices → (job weights : List ℕ) (words bound q p r : ℕ) → Example
  -- the writing call answers the bound, Q, p, r and the node count, and writes this plan
  writes : Choices → (job weights : List ℕ) (words bound q p r nodes : ℕ) (kinds operands : List ℕ) → Example
  -- a plan passes with a profit, copies of each kind and areas of pieces, waste nodes, trim and sawdust
  passes : Choices → (job kinds operands : List ℕ) (profit : ℕ) (copies : List ℕ) (pieces waste trim sawdust : ℕ) → Example
  -- a plan is refused, with a number and a place
  refused : (job kinds operands : List ℕ) (number place : ℕ) → Example
  -- a plan's first node decides, whatever follows it: refused, or passed at that node
  first_refused : (job : List ℕ) (kind operand number place : ℕ) → Example
  first_passes : (job : List ℕ) (kind operand : ℕ) → Example
  -- the certificate of a plan under weights, and its answer: the gap, 0 for best, the bound and the profit
  certifies : Choices → (job weights kinds operands : List ℕ) (words : ℕ) → Certificate → (gap bound profit : ℕ) → Example
  -- the neat call answers the node count, and the neat plan of a plan is this one
  neatens : (job kinds operands : List ℕ) (nodes : ℕ) (neat_kinds neat_operands : List ℕ) → Example
  -- the saw passes a plan with areas of pieces, waste nodes and trim, copies of each kind and sawdust
  saw_passes : (job kinds operands : List ℕ) (pieces waste trim : ℕ) (copies : List ℕ) (sawdust : ℕ) → Example
  -- the part of a node, in a plan's kinds as in its operands, has a first entry and a number of entries
  part : (job kinds operands : List ℕ) (node first entries : ℕ) → Example
  -- the staged check of a plan within a limit passes with a profit, areas of pieces, waste nodes and trim, copies, sawdust and stages
  stages_pass : (job : List ℕ) (limit : ℕ) (kinds operands : List ℕ) (profit pieces waste trim : ℕ) (copies : List ℕ) (sawdust stages : ℕ) → Example
  -- or it refuses the plan, with a number and a place
  stages_refused : (job : List ℕ) (limit : ℕ) (kinds operands : List ℕ) (number place : ℕ) → Example
  -- the staged bound call answers the bound, Q, p and r
  stages_bound : (job weights : List ℕ) (limit words bound q p r : ℕ) → Example
  -- the bound of these weights, and no tree cut at multiples of one m-th of a unit that keeps the demands earns more
  finer_most : Choices → (job weights : List ℕ) (m most : ℕ) → Example
  -- the staged bound of these weights, and no such tree within the limit of stages earns more
  finer_stages : (job weights : List ℕ) (limit m most : ℕ) → Example
  -- a plan cut at m-ths passes the check of the job measured in m-ths, with a profit, and its neat plan at whole units is this one
  finer_passes : (job : List ℕ) (m : ℕ) (kinds operands : List ℕ) (profit : ℕ) (neat_kinds neat_operands : List ℕ) → Example
  -- a line of the plate 1 by 1 and a kind 2 by 2, whatever the bytes of its price and demand and the weights that are accepted with them
  whatever : ((pair weights : List ℕ) → Example) → Example

-- the marked examples' jobs are old blocks, and make no other choice
abbrev pub old_block : Choices
old_block = record { turning = false; full_demand = false; old_block = true; grain = false }

-- no choice at all: a block with a kerf
abbrev pub no_choice : Choices
no_choice = record { turning = false; full_demand = false; old_block = false; grain = false }

-- the capacity of the full demands
abbrev pub full : Choices
full = with_full_demand old_block

-- pieces that may be turned, and a block with a kerf
abbrev pub turning : Choices
turning = record { turning = true; full_demand = false; old_block = false; grain = false }

-- lent lists that hold every length up to the plate's sides, the kerf added
abbrev pub LongLists : List ℕ → Choices → Memory → Type 0
LongLists s choices m = ((wide_job s choices).plate.0 < length m.lengths) × ((wide_job s choices).plate.1 < length m.widths)

-- lent memory of any contents that is long enough: such lists, and a table of so many words
abbrev pub Enough : List ℕ → Choices → ℕ → Memory → Type 0
Enough s choices words m = LongLists s choices m × (words ≤ length m.table)

-- such lists, and a table that is shorter
abbrev pub TooShort : List ℕ → Choices → ℕ → Memory → Type 0
TooShort s choices words m = LongLists s choices m × (length m.table < words)

-- an answer that is a refusal with a number and a place
abbrev pub RefusedAs : {A : Type 0} → ℕ → ℕ → Answer A → Type 0
RefusedAs number place a = IsErrAnd a (λ r. refused_as r ≡ (number, place ∷ []))

-- an answer that refuses no node up to node k, unless for an idle cut
abbrev pub PassedTo : {A : Type 0} → ℕ → Answer A → Type 0
PassedTo k a = IfErr a (λ r. (number_of r ≡ 26 → ⊥) → k < place_of r)

-- the answer for every plan with this first node, as many kinds as operands and at most 4,095 nodes, has a property
abbrev pub Beginning : List ℕ → ℕ → ℕ → (Answer Report → Type 0) → Type 0
Beginning s kind operand P = (kinds operands : List ℕ) → length kinds ≡ length operands → length kinds < most_nodes → P (arrays_answer s old_block (kind ∷ kinds) (operand ∷ operands))

-- copies as a report has them: 64 numbers, 0 past the job's kinds
abbrev pub padded : List ℕ → List ℕ
padded xs = xs ++ replicate (most_kinds - length xs) 0

-- plate 1 by 1, one kind 2 by 2, then the bytes of its price and demand
abbrev pub misfit_job : List ℕ → List ℕ
misfit_job pair = 1 ∷ 0 ∷ 1 ∷ 0 ∷ 1 ∷ 0 ∷ 2 ∷ 0 ∷ 2 ∷ 0 ∷ pair

-- what each line means; where the table is too short the call gives refusal 20 with the words needed
abbrev pub ExampleHolds : Example → Type 0
ExampleHolds (positions s d xs) = normal_positions (wide_job s old_block) d ≡ xs
ExampleHolds (bounds choices s ws words bound q p r) =
    ((m : Memory) → Enough s choices words m → bound_said s choices ws m ≡ (0, bound ∷ q ∷ p ∷ r ∷ []))
    × ((m : Memory) → TooShort s choices words m → bound_said s choices ws m ≡ (20, words ∷ []))
ExampleHolds (writes choices s ws words bound q p r nodes kinds operands) =
    ((m : Memory) (ks os : List ℕ) → Enough s choices words m → nodes ≤ length ks → nodes ≤ length os → write_said s choices ws m ks os ≡ (0, bound ∷ q ∷ p ∷ r ∷ nodes ∷ []))
    × (kinds_of (block_plan s choices ws) ≡ kinds) × (operands_of (block_plan s choices ws) ≡ operands)
ExampleHolds (passes choices s kinds operands profit copies pieces waste trim sawdust) =
    arrays_answer s choices kinds operands ≡ Ok (record { profit = profit; copies = padded copies; pieces = pieces; waste = waste; trim = trim; sawdust = sawdust })
ExampleHolds (refused s kinds operands number place) = RefusedAs number place (arrays_answer s old_block kinds operands)
ExampleHolds (first_refused s kind operand number place) = Beginning s kind operand (RefusedAs number place)
ExampleHolds (first_passes s kind operand) = Beginning s kind operand (PassedTo 0)
ExampleHolds (certifies choices s ws kinds operands words certificate gap bound profit) =
    (m : Memory) → Enough s choices words m → (certificate_of s choices ws kinds operands m ≡ Ok certificate) × (certificate_said s choices ws kinds operands m ≡ (0, gap ∷ bound ∷ profit ∷ []))
ExampleHolds (neatens s kinds operands nodes neat_kinds neat_operands) =
    ((ks os : List ℕ) → nodes ≤ length ks → nodes ≤ length os → neat_said s old_block kinds operands ks os ≡ (0, nodes ∷ []))
    × (kinds_of (block_neat s old_block kinds operands) ≡ neat_kinds) × (operands_of (block_neat s old_block kinds operands) ≡ neat_operands)
ExampleHolds (saw_passes s kinds operands pieces waste trim copies sawdust) = saw_said s old_block kinds operands ≡ (0, pieces ∷ waste ∷ trim ∷ (padded copies ++ (sawdust ∷ [])))
ExampleHolds (part s kinds operands node first entries) =
    (part_said (node_part s old_block kinds operands kinds node) ≡ (0, first ∷ entries ∷ [])) × (part_said (node_part s old_block kinds operands operands node) ≡ (0, first ∷ entries ∷ []))
ExampleHolds (stages_pass s limit kinds operands profit pieces waste trim copies sawdust stages) =
    staged_check_said s old_block limit kinds operands ≡ (0, profit ∷ pieces ∷ waste ∷ trim ∷ ((padded copies ++ (sawdust ∷ [])) ++ (stages ∷ [])))
ExampleHolds (stages_refused s limit kinds operands number place) = staged_check_said s old_block limit kinds operands ≡ (number, place ∷ [])
ExampleHolds (stages_bound s ws limit words bound q p r) = (m : Memory) → Enough s old_block words m → staged_said s old_block ws limit m ≡ (0, bound ∷ q ∷ p ∷ r ∷ [])
ExampleHolds (finer_most choices s ws m most) = (bound_of (block_job s choices) (weight_in ws) ≡ most) × NoneAbove (finer m (block_job s choices)) most
ExampleHolds (finer_stages s ws limit m most) = (staged_bound (block_job s old_block) (weight_in ws) limit ≡ most) × NoneStaged (finer m (block_job s old_block)) limit most
ExampleHolds (finer_passes s m kinds operands profit neat_kinds neat_operands) =
    IsOkAnd (plan_answer (finer m (block_job s old_block)) kinds operands) (λ r. r.profit ≡ profit)
    × (kinds_of (block_neat s old_block kinds operands) ≡ neat_kinds) × (operands_of (block_neat s old_block kinds operands) ≡ neat_operands)
ExampleHolds (whatever e) = (pair ws : List ℕ) → Accepted (misfit_job pair) old_block ws → ExampleHolds (e pair ws)

-- job S: plate 5 by 3, three kinds; sizes 2 by 3, 3 by 1, 2 by 2; price 7, demand 1; price 4, demand 2; price 5, demand 1
abbrev pub job_s : List ℕ
job_s =
    5 ∷ 0 ∷ 3 ∷ 0 ∷ 3 ∷ 0
    ∷ 2 ∷ 0 ∷ 3 ∷ 0 ∷ 3 ∷ 0 ∷ 1 ∷ 0 ∷ 2 ∷ 0 ∷ 2 ∷ 0
    ∷ 7 ∷ 0 ∷ 0 ∷ 0 ∷ 1 ∷ 0
    ∷ 4 ∷ 0 ∷ 0 ∷ 0 ∷ 2 ∷ 0
    ∷ 5 ∷ 0 ∷ 0 ∷ 0 ∷ 1 ∷ 0
    ∷ []

-- job S with prices of 4,294,967,295, which the office refuses
abbrev pub costly_job : List ℕ
costly_job =
    5 ∷ 0 ∷ 3 ∷ 0 ∷ 3 ∷ 0
    ∷ 2 ∷ 0 ∷ 3 ∷ 0 ∷ 3 ∷ 0 ∷ 1 ∷ 0 ∷ 2 ∷ 0 ∷ 2 ∷ 0
    ∷ 255 ∷ 255 ∷ 255 ∷ 255 ∷ 1 ∷ 0
    ∷ 255 ∷ 255 ∷ 255 ∷ 255 ∷ 2 ∷ 0
    ∷ 255 ∷ 255 ∷ 255 ∷ 255 ∷ 1 ∷ 0
    ∷ []

-- plate 2 by 3, only kind 0 of S, with demand 0
abbrev pub cancelled_job : List ℕ
cancelled_job = 2 ∷ 0 ∷ 3 ∷ 0 ∷ 1 ∷ 0 ∷ 2 ∷ 0 ∷ 3 ∷ 0 ∷ 7 ∷ 0 ∷ 0 ∷ 0 ∷ 0 ∷ 0 ∷ []

-- plate 3 by 1, kind 1 by 1 of demand 1 and kind 9 by 9 of demand 3, both of price 1
abbrev pub loose_job : List ℕ
loose_job =
    3 ∷ 0 ∷ 1 ∷ 0 ∷ 2 ∷ 0
    ∷ 1 ∷ 0 ∷ 1 ∷ 0 ∷ 9 ∷ 0 ∷ 9 ∷ 0
    ∷ 1 ∷ 0 ∷ 0 ∷ 0 ∷ 1 ∷ 0
    ∷ 1 ∷ 0 ∷ 0 ∷ 0 ∷ 3 ∷ 0
    ∷ []

-- plate 5 by 3, one kind 2 by 2 of price 5 and demand 200
abbrev pub roomy_job : List ℕ
roomy_job = 5 ∷ 0 ∷ 3 ∷ 0 ∷ 1 ∷ 0 ∷ 2 ∷ 0 ∷ 2 ∷ 0 ∷ 5 ∷ 0 ∷ 0 ∷ 0 ∷ 200 ∷ 0 ∷ []

-- plate 5 by 3, kerf 1, one kind 2 by 3 of price 7 and demand 2
abbrev pub sawn_job : List ℕ
sawn_job = 5 ∷ 0 ∷ 3 ∷ 0 ∷ 1 ∷ 0 ∷ 1 ∷ 0 ∷ 2 ∷ 0 ∷ 3 ∷ 0 ∷ 7 ∷ 0 ∷ 0 ∷ 0 ∷ 2 ∷ 0 ∷ []

-- the lines; the scope leaves the price, the demand and the weight of the kind 2 by 2 free
unfoldable pub marked : List Example
marked =
    -- Normal lengths 0, 2, 3, 4, 5; widths 0, 1, 2, 3.
    positions job_s Length (0 ∷ 2 ∷ 3 ∷ 4 ∷ 5 ∷ [])
    ∷ positions job_s Width (0 ∷ 1 ∷ 2 ∷ 3 ∷ [])
    -- Weights 0 0 0: bound 19, 20 table words.
    ∷ bounds old_block job_s (0 ∷ 0 ∷ 0 ∷ []) 20 19 0 5 4
    -- Weights 0 1 0: capacity 2, bound 16, 60 words.
    ∷ bounds old_block job_s (0 ∷ 1 ∷ 0 ∷ []) 60 16 2 5 4
    -- Kinds 2 1 3 1 1, operands 2 0 1 1 2: profit 16, one copy of each, areas 13, 0, 2. Best under weights 0 1 0; gap 3 under 0 0 0.
    ∷ passes old_block job_s (2 ∷ 1 ∷ 3 ∷ 1 ∷ 1 ∷ []) (2 ∷ 0 ∷ 1 ∷ 1 ∷ 2 ∷ []) 16 (1 ∷ 1 ∷ 1 ∷ []) 13 0 2 0
    ∷ certifies old_block job_s (0 ∷ 1 ∷ 0 ∷ []) (2 ∷ 1 ∷ 3 ∷ 1 ∷ 1 ∷ []) (2 ∷ 0 ∷ 1 ∷ 1 ∷ 2 ∷ []) 60 (Best 16) 0 16 16
    ∷ certifies old_block job_s (0 ∷ 0 ∷ 0 ∷ []) (2 ∷ 1 ∷ 3 ∷ 1 ∷ 1 ∷ []) (2 ∷ 0 ∷ 1 ∷ 1 ∷ 2 ∷ []) 20 (Gap 16 3) 3 19 16
    -- Kind 0, operand 0: profit 0, areas 0, 15, 0.
    ∷ passes old_block job_s (0 ∷ []) (0 ∷ []) 0 (0 ∷ 0 ∷ 0 ∷ []) 0 15 0 0
    -- Kind 1, operand 0: profit 7, areas 6, 0, 9.
    ∷ passes old_block job_s (1 ∷ []) (0 ∷ []) 7 (1 ∷ 0 ∷ 0 ∷ []) 6 0 9 0
    -- Kinds 2 1 3 1 3 1 1, operands 2 0 1 1 1 1 1: refusal 16 at node 6.
    ∷ refused job_s (2 ∷ 1 ∷ 3 ∷ 1 ∷ 3 ∷ 1 ∷ 1 ∷ []) (2 ∷ 0 ∷ 1 ∷ 1 ∷ 1 ∷ 1 ∷ 1 ∷ []) 16 6
    -- First node kind 2, operand 5: 14 at node 0. Operand 4 passes there.
    ∷ first_refused job_s 2 5 14 0
    ∷ first_passes job_s 2 4
    -- Kinds 2 1, operands 2 0: 17 at 2.
    ∷ refused job_s (2 ∷ 1 ∷ []) (2 ∷ 0 ∷ []) 17 2
    -- Kinds 0 0, operands 0 0: 18 at 1.
    ∷ refused job_s (0 ∷ 0 ∷ []) (0 ∷ 0 ∷ []) 18 1
    -- Kinds 2 0 0, operands 2 0 0: 26 at node 0. Kinds 2 1 3 0 0, operands 2 0 1 0 0: 26 at node 2.
    ∷ refused job_s (2 ∷ 0 ∷ 0 ∷ []) (2 ∷ 0 ∷ 0 ∷ []) 26 0
    ∷ refused job_s (2 ∷ 1 ∷ 3 ∷ 0 ∷ 0 ∷ []) (2 ∷ 0 ∷ 1 ∷ 0 ∷ 0 ∷ []) 26 2
    -- Kinds 2 1 0, operands 2 0 0: profit 7, areas 6, 9, 0.
    ∷ passes old_block job_s (2 ∷ 1 ∷ 0 ∷ []) (2 ∷ 0 ∷ 0 ∷ []) 7 (1 ∷ 0 ∷ 0 ∷ []) 6 9 0 0
    -- Plate 1 by 1, one kind 2 by 2: bound 0, only position 0 on each side, plan one waste node.
    ∷ whatever (λ pair ws. bounds old_block (misfit_job pair) ws 1 0 0 1 1)
    ∷ whatever (λ pair ws. positions (misfit_job pair) Length (0 ∷ []))
    ∷ whatever (λ pair ws. positions (misfit_job pair) Width (0 ∷ []))
    ∷ whatever (λ pair ws. writes old_block (misfit_job pair) ws 1 0 0 1 1 1 (0 ∷ []) (0 ∷ []))
    -- Plate 2 by 3, only kind 0 of S with demand 0, weight 0: bound 0, plan one waste node.
    ∷ bounds old_block cancelled_job (0 ∷ []) 1 0 0 1 1
    ∷ writes old_block cancelled_job (0 ∷ []) 1 0 0 1 1 1 (0 ∷ []) (0 ∷ [])
    -- Plate 3 by 1, kinds 1 by 1, demand 1, and 9 by 9, demand 3, weights 1 1: capacity 1, bound 1, and with the full demands 4 and 3.
    ∷ bounds old_block loose_job (1 ∷ 1 ∷ []) 16 1 1 4 2
    ∷ bounds full loose_job (1 ∷ 1 ∷ []) 40 3 4 4 2
    -- A piece of 1 by 1 and waste, profit 1: best, and with the full demands a gap of 2.
    ∷ certifies old_block loose_job (1 ∷ 1 ∷ []) (2 ∷ 1 ∷ 0 ∷ []) (1 ∷ 0 ∷ 0 ∷ []) 16 (Best 1) 0 1 1
    ∷ certifies full loose_job (1 ∷ 1 ∷ []) (2 ∷ 1 ∷ 0 ∷ []) (1 ∷ 0 ∷ 0 ∷ []) 40 (Gap 1 2) 2 3 1
    -- Plate 5 by 3, kind 2 by 2 of price 5 and demand 200, weight 1: capacity 2, bound 10.
    ∷ bounds old_block roomy_job (1 ∷ []) 18 10 2 3 2
    -- Plate 5 by 3, kerf 1, kind 2 by 3 of price 7 and demand 2: bound 14 under weight 0; cut at 2, profit 14, areas 12, 0, 0 and sawdust 3.
    ∷ bounds no_choice sawn_job (0 ∷ []) 6 14 0 3 2
    ∷ passes no_choice sawn_job (2 ∷ 1 ∷ 1 ∷ []) (2 ∷ 0 ∷ 0 ∷ []) 14 (2 ∷ []) 12 0 0 3
    -- Job S, kinds 2 1 1, operands 3 0 2: the neat plan has 3 nodes, kinds 2 1 1, operands 2 0 2.
    ∷ neatens job_s (2 ∷ 1 ∷ 1 ∷ []) (3 ∷ 0 ∷ 2 ∷ []) 3 (2 ∷ 1 ∷ 1 ∷ []) (2 ∷ 0 ∷ 2 ∷ [])
    -- Kinds 2 1 3 1 1, operands 2 0 1 1 2 at the saw: areas 13, 0, 2, 0 and copies 1 1 1, also with prices of 4,294,967,295.
    ∷ saw_passes job_s (2 ∷ 1 ∷ 3 ∷ 1 ∷ 1 ∷ []) (2 ∷ 0 ∷ 1 ∷ 1 ∷ 2 ∷ []) 13 0 2 (1 ∷ 1 ∷ 1 ∷ []) 0
    ∷ saw_passes costly_job (2 ∷ 1 ∷ 3 ∷ 1 ∷ 1 ∷ []) (2 ∷ 0 ∷ 1 ∷ 1 ∷ 2 ∷ []) 13 0 2 (1 ∷ 1 ∷ 1 ∷ []) 0
    -- The part of node 2 has the three entries from 2 on, that of node 5 none, at 5.
    ∷ part job_s (2 ∷ 1 ∷ 3 ∷ 1 ∷ 1 ∷ []) (2 ∷ 0 ∷ 1 ∷ 1 ∷ 2 ∷ []) 2 2 3
    ∷ part job_s (2 ∷ 1 ∷ 3 ∷ 1 ∷ 1 ∷ []) (2 ∷ 0 ∷ 1 ∷ 1 ∷ 2 ∷ []) 5 5 0
    -- Its stages are 2: within 2 it passes, within 1 it is 23 at node 2. Weights 0 1 0: the staged bound is 14 within 1 stage, 16 within 2.
    ∷ stages_pass job_s 2 (2 ∷ 1 ∷ 3 ∷ 1 ∷ 1 ∷ []) (2 ∷ 0 ∷ 1 ∷ 1 ∷ 2 ∷ []) 16 13 0 2 (1 ∷ 1 ∷ 1 ∷ []) 0 2
    ∷ stages_refused job_s 1 (2 ∷ 1 ∷ 3 ∷ 1 ∷ 1 ∷ []) (2 ∷ 0 ∷ 1 ∷ 1 ∷ 2 ∷ []) 23 2
    ∷ stages_bound job_s (0 ∷ 1 ∷ 0 ∷ []) 1 180 14 2 5 4
    ∷ stages_bound job_s (0 ∷ 1 ∷ 0 ∷ []) 2 300 16 2 5 4
    -- Job S cut at tenths: none above 16, within 1 stage none above 14. The plate 3 by 1 with the full demands: none above 3. The plate 5 by 3
    -- with kerf 1: none above 14, also where the piece may be turned.
    ∷ finer_most old_block job_s (0 ∷ 1 ∷ 0 ∷ []) 10 16
    ∷ finer_stages job_s (0 ∷ 1 ∷ 0 ∷ []) 1 10 14
    ∷ finer_most full loose_job (1 ∷ 1 ∷ []) 10 3
    ∷ finer_most no_choice sawn_job (0 ∷ []) 10 14
    ∷ finer_most turning sawn_job (0 ∷ []) 10 14
    -- Kinds 2 1 1, operands 25 0 2, at tenths: profit 12, and the neat plan at whole units has operands 2 0 2.
    ∷ finer_passes job_s 10 (2 ∷ 1 ∷ 1 ∷ []) (25 ∷ 0 ∷ 2 ∷ []) 12 (2 ∷ 1 ∷ 1 ∷ []) (2 ∷ 0 ∷ 2 ∷ [])
    ∷ []
