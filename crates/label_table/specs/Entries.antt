-- What each row of a label table has to hold, in terms of the rows of its parts.
use Rattle.std.specs.Prelude.{◌≡◌, ℕ, ◌<◌, true, ◌⊎◌, List}
use Rattle.std.specs.Coded.{×_prop, Unit-prop, le_prop}
use Rattle.graph.specs.Meaning.{Meaning, mode_limit}
use Rattle.logic.specs.Truth.{Steps}
use Rattle.logic.specs.declared.row.Row.{Row}
use Rattle.logic.specs.declared.row.Row.TheVariants.{Never, Flag, Not, Both, Either, Implies, Box, Diamond, Command, Sequence, Choice, Repetition, Converse, Test}
use Rattle.label_table.specs.Layout.{pair_bit}

-- the bit of u and v in row r is set; a formula row has its modes where a program row has those of mode 0
abbrev pub In : List ℕ → ℕ → ℕ → ℕ → Type 0
In bytes r u v = pair_bit bytes r u v ≡ true

-- row r has the pair of u and v, which are among n modes
abbrev pub Step : ℕ → List ℕ → ℕ → ℕ → ℕ → Type 0
Step n bytes r u v = (u < n) × (v < n) × In bytes r u v

-- the parts of a row are rows before row q
abbrev pub PartsBelow : ℕ → Row → Type 0
PartsBelow q Never = Unit {0}
PartsBelow q (Flag p) = Unit {0}
PartsBelow q (Not x) = x < q
PartsBelow q (Both x y) = (x < q) × (y < q)
PartsBelow q (Either x y) = (x < q) × (y < q)
PartsBelow q (Implies x y) = (x < q) × (y < q)
PartsBelow q (Box r x) = (r < q) × (x < q)
PartsBelow q (Diamond r x) = (r < q) × (x < q)
PartsBelow q (Command a) = Unit {0}
PartsBelow q (Sequence r s) = (r < q) × (s < q)
PartsBelow q (Choice r s) = (r < q) × (s < q)
PartsBelow q (Repetition r) = r < q
PartsBelow q (Converse r) = r < q
PartsBelow q (Test x) = x < q

-- of that a row has it there is one proof, so a struct can carry it
pub PartsBelow-prop : (q : ℕ) (row : Row) → IsProp (PartsBelow q row)
PartsBelow-prop q Never = Unit-prop
PartsBelow-prop q (Flag p) = Unit-prop
PartsBelow-prop q (Not x) = le_prop
PartsBelow-prop q (Both x y) = ×_prop le_prop le_prop
PartsBelow-prop q (Either x y) = ×_prop le_prop le_prop
PartsBelow-prop q (Implies x y) = ×_prop le_prop le_prop
PartsBelow-prop q (Box r x) = ×_prop le_prop le_prop
PartsBelow-prop q (Diamond r x) = ×_prop le_prop le_prop
PartsBelow-prop q (Command a) = Unit-prop
PartsBelow-prop q (Sequence r s) = ×_prop le_prop le_prop
PartsBelow-prop q (Choice r s) = ×_prop le_prop le_prop
PartsBelow-prop q (Repetition r) = le_prop
PartsBelow-prop q (Converse r) = le_prop
PartsBelow-prop q (Test x) = le_prop

-- a formula is true at u, by the rows of its parts
abbrev pub FormulaSays : Meaning → List ℕ → Row → ℕ → Type 0
FormulaSays m bytes Never u = ⊥
FormulaSays m bytes (Flag p) u = m.stands p u ≡ true
FormulaSays m bytes (Not x) u = In bytes x 0 u → ⊥
FormulaSays m bytes (Both x y) u = In bytes x 0 u × In bytes y 0 u
FormulaSays m bytes (Either x y) u = In bytes x 0 u ⊎ In bytes y 0 u
FormulaSays m bytes (Implies x y) u = In bytes x 0 u → In bytes y 0 u
FormulaSays m bytes (Box r x) u = (v : ℕ) → v < mode_limit → In bytes r u v → In bytes x 0 v
FormulaSays m bytes (Diamond r x) u = (v : ℕ) × (v < mode_limit) × In bytes r u v × In bytes x 0 v
FormulaSays m bytes (Command a) u = ⊥
FormulaSays m bytes (Sequence r s) u = ⊥
FormulaSays m bytes (Choice r s) u = ⊥
FormulaSays m bytes (Repetition r) u = ⊥
FormulaSays m bytes (Converse r) u = ⊥
FormulaSays m bytes (Test x) u = ⊥

-- row r leads from u to one of n modes, and row s from there to v
abbrev pub Through : ℕ → List ℕ → ℕ → ℕ → ℕ → ℕ → Type 0
Through n bytes r s u v = (w : ℕ) × (w < n) × (In bytes r u w × In bytes s w v)

-- row r leads to u from v, which is one of n modes
abbrev pub Turned : ℕ → List ℕ → ℕ → ℕ → ℕ → Type 0
Turned n bytes r u v = (v < n) × In bytes r v u

-- a program leads from u to v, by the rows of its parts; of a repetition: by at most one step
abbrev pub OneStep : Meaning → List ℕ → Row → ℕ → ℕ → Type 0
OneStep m bytes Never u v = ⊥
OneStep m bytes (Flag p) u v = ⊥
OneStep m bytes (Not x) u v = ⊥
OneStep m bytes (Both x y) u v = ⊥
OneStep m bytes (Either x y) u v = ⊥
OneStep m bytes (Implies x y) u v = ⊥
OneStep m bytes (Box r x) u v = ⊥
OneStep m bytes (Diamond r x) u v = ⊥
OneStep m bytes (Command a) u v = m.joins a u v ≡ true
OneStep m bytes (Sequence r s) u v = Through m.modes bytes r s u v
OneStep m bytes (Choice r s) u v = In bytes r u v ⊎ In bytes s u v
OneStep m bytes (Repetition r) u v = In bytes r u v ⊎ (v ≡ u)
OneStep m bytes (Converse r) u v = Turned m.modes bytes r u v
OneStep m bytes (Test x) u v = In bytes x 0 u × (v ≡ u)

-- a program leads from u to v, by the rows of its parts; of a repetition: by any number of steps
abbrev pub ProgramSays : Meaning → List ℕ → Row → ℕ → ℕ → Type 0
ProgramSays m bytes Never u v = ⊥
ProgramSays m bytes (Flag p) u v = ⊥
ProgramSays m bytes (Not x) u v = ⊥
ProgramSays m bytes (Both x y) u v = ⊥
ProgramSays m bytes (Either x y) u v = ⊥
ProgramSays m bytes (Implies x y) u v = ⊥
ProgramSays m bytes (Box r x) u v = ⊥
ProgramSays m bytes (Diamond r x) u v = ⊥
ProgramSays m bytes (Command a) u v = OneStep m bytes (Command a) u v
ProgramSays m bytes (Sequence r s) u v = OneStep m bytes (Sequence r s) u v
ProgramSays m bytes (Choice r s) u v = OneStep m bytes (Choice r s) u v
ProgramSays m bytes (Repetition r) u v = Steps (Step m.modes bytes r) u v
ProgramSays m bytes (Converse r) u v = OneStep m bytes (Converse r) u v
ProgramSays m bytes (Test x) u v = OneStep m bytes (Test x) u v

-- what a row holds at u and v: a formula its modes at 0, a program its pairs
abbrev pub Entry : Meaning → List ℕ → Row → ℕ → ℕ → Type 0
Entry m bytes row u v = ((u ≡ 0) × (v < m.modes) × FormulaSays m bytes row v) ⊎ ((u < m.modes) × ProgramSays m bytes row u v)
