-- The steps of a walk over the atoms of moov are in order by place, and so are the rows of the tables that are met.
use Rattle.std.proofs.Common.{◌≡◌, ◌∙◌, ℕ, zero, suc, ◌+◌, ◌*◌, ◌≤◌, ◌<◌, Bool, true, false, cond, List, [], ◌∷◌, ◌++◌, length, take, Option, Some, None, refl, sym, ap, subst, arith, inl, inr}
use Rattle.std.specs.Prelude.{codes, nat_lt, sum_by, ◌⊎◌}
use Rattle.std.specs.List.{AllByRecursion, flat_map}
use Rattle.std.proofs.lemmas.Bool.{cases_lt, le-ltb, lt-ltb}
use Rattle.std.proofs.lemmas.List.{length-append}
use Rattle.std.proofs.lemmas.List.Concat.{flat_map-append}
use Rattle.std.proofs.lemmas.List.Sums.{sum_by-append, sum_by-cons}
use Rattle.me_bytes.specs.Bytes.{IsBytes}
use Rattle.container_model.specs.Atoms.{is}
use Rattle.container_model.specs.Chunk.{Chunk, Form, header_bytes, long, riff, short, spell, spell_all, to_end, wide}
use Rattle.container_model.specs.Deep.{kids}
use Rattle.container_model.specs.Rows.{be32, be64}
use Rattle.container_model.specs.Sizes.{atom_front, inside}
use Rattle.container_model.specs.Walk.{Step, along, body_at, chunk_at, end_at, walk, walk_at}
use Rattle.container_model.proofs.Atoms.{atoms_give_back}
use Rattle.container_model.proofs.Codec.{chunks_joined}
use Rattle.container_model.proofs.Deep.{bytes_of}
use Rattle.container_model.proofs.Walk.{all_join, all_parts}
use Rattle.mov_model.specs.Atoms.{Place, dinf, file, format, mdia, minf, moov, opens, stbl, trak, user_data}
use Rattle.mov_model.specs.Cuts.{RowTable, step_tables, table_of}
use Rattle.mov_model.proofs.Steps.{StepFine}
use Rattle.sample_tables.proofs.Moved.{long_rows}
use Rattle.sample_tables.specs.Tables.{count}
use Rattle.mov_model.specs.WideCuts.{row_growth, rows_growth}
use Rattle.mov_plan.proofs.Lying.{StepLow, rows_low}
use Rattle.mov_plan.proofs.Mixed.{all_weaken}

-- ---- steps by place

-- an atom before a place
abbrev pub StepHigh : ℕ → Step Place → Type 0
StepHigh high (chunk_at p at c) = at < high
StepHigh high (end_at p at stop) = Unit {0}

-- the rows of a table end at a place or before it
abbrev pub EndsBy : ℕ → RowTable → Type 0
EndsBy high r = r.at + r.width.bytes * r.rows ≤ high

-- steps that follow each other from a place up to another
abbrev pub InOrder : ℕ → List (Step Place) → ℕ → Type 0
InOrder low [] high = low ≤ high
InOrder low (s ∷ ss) high = StepLow low s × ((next : ℕ) × ((low ≤ next) × StepHigh next s × AllByRecursion (EndsBy next) (step_tables s) × InOrder next ss high))

step_lower : (low mid : ℕ) (s : Step Place) → low ≤ mid → StepLow mid s → StepLow low s
step_lower low mid (chunk_at p at c) le h = omega (arith, le, h)
step_lower low mid (end_at p at stop) le h = tt

step_higher : (mid high : ℕ) (s : Step Place) → mid ≤ high → StepHigh mid s → StepHigh high s
step_higher mid high (chunk_at p at c) le h = omega (arith, le, h)
step_higher mid high (end_at p at stop) le h = tt

pub order_low : (low mid high : ℕ) (ss : List (Step Place)) → low ≤ mid → InOrder mid ss high → InOrder low ss high
order_low low mid high [] le h = omega (arith, le, h)
order_low low mid high (s ∷ ss) le h = (step_lower low mid s le h.0, (h.1.0, (omega (arith, le, h.1.1.0), h.1.1.1, h.1.1.2, h.1.1.3)))

pub order_both : (low mid high : ℕ) (xs ys : List (Step Place)) → InOrder low xs mid → InOrder mid ys high → InOrder low (xs ++ ys) high
order_both low mid high [] ys h g = order_low low mid high ys h g
order_both low mid high (s ∷ xs) ys h g = (h.0, (h.1.0, (h.1.1.0, h.1.1.1, h.1.1.2, order_both h.1.0 mid high xs ys h.1.1.3 g)))

pub order_end : (low high : ℕ) (ss : List (Step Place)) → InOrder low ss high → low ≤ high
order_end low high [] h = h
order_end low high (s ∷ ss) h = let more = order_end h.1.0 high ss h.1.1.3 in omega (arith, h.1.1.0, more)

pub order_steps : (low high : ℕ) (ss : List (Step Place)) → InOrder low ss high → AllByRecursion (StepLow low) ss
order_steps low high [] h = tt
order_steps low high (s ∷ ss) h = (h.0, all_weaken (StepLow h.1.0) (StepLow low) (λ t x. step_lower low h.1.0 t h.1.1.0 x) ss (order_steps h.1.0 high ss h.1.1.3))

pub order_high : (low high : ℕ) (ss : List (Step Place)) → InOrder low ss high → AllByRecursion (StepHigh high) ss
order_high low high [] h = tt
order_high low high (s ∷ ss) h = (step_higher h.1.0 high s (order_end h.1.0 high ss h.1.1.3) h.1.1.1, order_high h.1.0 high ss h.1.1.3)

pub order_rows_end : (low high : ℕ) (ss : List (Step Place)) → InOrder low ss high → AllByRecursion (EndsBy high) (flat_map step_tables ss)
order_rows_end low high [] h = tt
order_rows_end low high (s ∷ ss) h =
    let end = order_end h.1.0 high ss h.1.1.3 in
    all_join (EndsBy high) (step_tables s) (flat_map step_tables ss) (all_weaken (EndsBy h.1.0) (EndsBy high) (λ r x. omega (arith, x, end)) (step_tables s) h.1.1.2) (order_rows_end h.1.0 high ss h.1.1.3)

pub order_rows_low : (low high : ℕ) (ss : List (Step Place)) → InOrder low ss high → AllByRecursion (λ (r : RowTable). low < r.at) (flat_map step_tables ss)
order_rows_low low high ss h = rows_low low ss (order_steps low high ss h)

-- the tables rise
abbrev pub Rise : List RowTable → Type 0
Rise [] = Unit {0}
Rise (r ∷ rs) = AllByRecursion (λ (x : RowTable). r.at ≤ x.at) rs × Rise rs

rise_both : (p : ℕ) (xs ys : List RowTable) → Rise xs → Rise ys → AllByRecursion (λ (r : RowTable). r.at ≤ p) xs → AllByRecursion (λ (r : RowTable). p ≤ r.at) ys → Rise (xs ++ ys)
rise_both p [] ys h g a b = g
rise_both p (r ∷ xs) ys h g a b = (all_join (λ (x : RowTable). r.at ≤ x.at) xs ys h.0 (all_weaken (λ (x : RowTable). p ≤ x.at) (λ (x : RowTable). r.at ≤ x.at) (λ x le. omega (arith, le, a.0)) ys b), rise_both p xs ys h.1 g a.1 b)

step_rise : (s : Step Place) → Rise (step_tables s)
step_rise (chunk_at stbl at c) = go (is c (codes "stco")) (is c (codes "co64"))
  where
    go : (t u : Bool) → Rise (cond t (table_of be32 at c ∷ []) (cond u (table_of be64 at c ∷ []) []))
    go true u = (tt, tt)
    go false true = (tt, tt)
    go false false = tt
step_rise (chunk_at file at c) = tt
step_rise (chunk_at user_data at c) = tt
step_rise (chunk_at moov at c) = tt
step_rise (chunk_at trak at c) = tt
step_rise (chunk_at mdia at c) = tt
step_rise (chunk_at minf at c) = tt
step_rise (chunk_at dinf at c) = tt
step_rise (end_at p at stop) = tt

pub order_rise : (low high : ℕ) (ss : List (Step Place)) → InOrder low ss high → Rise (flat_map step_tables ss)
order_rise low high [] h = tt
order_rise low high (s ∷ ss) h =
    rise_both h.1.0 (step_tables s) (flat_map step_tables ss) (step_rise s) (order_rise h.1.0 high ss h.1.1.3)
    (all_weaken (EndsBy h.1.0) (λ (r : RowTable). r.at ≤ h.1.0) (λ r x. omega (arith, x)) (step_tables s) h.1.1.2)
    (all_weaken (λ (r : RowTable). h.1.0 < r.at) (λ (r : RowTable). h.1.0 ≤ r.at) (λ r x. omega (arith, x)) (flat_map step_tables ss) (order_rows_low h.1.0 high ss h.1.1.3))

-- ---- a walk

pub head_some : (f : Form) (id : List ℕ) (n : ℕ) → 1 ≤ length (header_bytes f id n)
head_some riff id n = omega (arith, length-append id (Rattle.std.specs.Int.to_le_bytes Rattle.std.specs.Int.w32 n))
head_some wide id n = omega (arith, length-append id (255 ∷ 255 ∷ 255 ∷ 255 ∷ []))
head_some short id n = omega arith
head_some long id n = omega arith
head_some to_end id n = omega arith

ends_by : (w : Rattle.container_model.specs.Rows.Width) (at : ℕ) (c : Chunk) → 8 + w.bytes * count c ≤ length c.body → EndsBy (at + length (spell c)) (table_of w at c)
ends_by w at c h = omega (arith, h, length-append (header_bytes c.form c.id (length c.body)) (c.body ++ c.pad), length-append c.body c.pad)

leaf_ends : (p : Place) (at : ℕ) (c : Chunk) → StepFine (chunk_at p at c) → AllByRecursion (EndsBy (at + length (spell c))) (step_tables (chunk_at p at c))
leaf_ends stbl at c fine = go (is c (codes "stco")) (is c (codes "co64")) refl refl
  where
    go : (t u : Bool) → is c (codes "stco") ≡ t → is c (codes "co64") ≡ u → AllByRecursion (EndsBy (at + length (spell c))) (cond t (table_of be32 at c ∷ []) (cond u (table_of be64 at c ∷ []) []))
    go true u e i = (ends_by be32 at c ((long_rows c fine.1.0).0 e), tt)
    go false true e i = (ends_by be64 at c ((long_rows c fine.1.0).1 i), tt)
    go false false e i = tt
leaf_ends file at c fine = tt
leaf_ends user_data at c fine = tt
leaf_ends moov at c fine = tt
leaf_ends trak at c fine = tt
leaf_ends mdia at c fine = tt
leaf_ends minf at c fine = tt
leaf_ends dinf at c fine = tt

-- what is opened holds no rows of its own
pub no_tables : (p q : Place) (at : ℕ) (c : Chunk) → opens p c.id (take 4 c.body) ≡ Some q → step_tables (chunk_at p at c) ≡ []
no_tables file q at c e = refl
no_tables user_data q at c e = refl
no_tables moov q at c e = refl
no_tables trak q at c e = refl
no_tables mdia q at c e = refl
no_tables minf q at c e = refl
no_tables stbl q at c e = absurd cc
no_tables dinf q at c e = refl

pub spell_some : (at : ℕ) (c : Chunk) → (at < body_at at c) × (body_at at c + (length c.body + length c.pad) ≡ at + length (spell c))
spell_some at c = (omega (arith, head_some c.form c.id (length c.body)), omega (arith, length-append (header_bytes c.form c.id (length c.body)) (c.body ++ c.pad), length-append c.body c.pad))

pub along_order : (g : ℕ → Chunk → List (Step Place)) → ((at : ℕ) (c : Chunk) → IsBytes c.body → AllByRecursion StepFine (g at c) → InOrder at (g at c) (at + length (spell c)))
    → (at : ℕ) (cs : List Chunk) → AllByRecursion (λ c. IsBytes c.body) cs → AllByRecursion StepFine (along g at cs) → InOrder at (along g at cs) (at + length (spell_all cs))
along_order g h at [] bytes fine = omega arith
along_order g h at (c ∷ cs) bytes fine =
    let next = at + length (spell c) in
    let p = all_parts StepFine (g at c) (along g next cs) fine in
    let end : next + length (spell_all cs) ≡ at + length (spell c ++ spell_all cs) = omega (arith, length-append (spell c) (spell_all cs)) in
    order_both at next (at + length (spell c ++ spell_all cs)) (g at c) (along g next cs) (h at c bytes.0 p.0) (subst (InOrder next (along g next cs)) end (along_order g h next cs bytes.1 p.1))

pub walk_order : (d : ℕ) (p : Place) (at : ℕ) (c : Chunk) → IsBytes c.body → AllByRecursion StepFine (walk format d p at c) → InOrder at (walk format d p at c) (at + length (spell c))
unfolding walk
walk_order zero p at c bytes fine =
    let s = spell_some at c in
    (omega arith, (at + length (spell c), (omega arith, omega (arith, s.0, s.1), leaf_ends p at c fine.0, omega arith)))
walk_order (suc d) p at c bytes fine = go (opens p c.id (take 4 c.body)) refl fine.1 (λ q a k b h. walk_order d q a k b h)
  where
    go : (o : Option Place) → opens p c.id (take 4 c.body) ≡ o → AllByRecursion StepFine (walk_at format (walk format d) at c o)
        → ((q : Place) (a : ℕ) (k : Chunk) → IsBytes k.body → AllByRecursion StepFine (walk format d q a k) → InOrder a (walk format d q a k) (a + length (spell k)))
        → InOrder at (chunk_at p at c ∷ walk_at format (walk format d) at c o) (at + length (spell c))
    go None e more again =
        let s = spell_some at c in
        (omega arith, (at + length (spell c), (omega arith, omega (arith, s.0, s.1), leaf_ends p at c fine.0, omega arith)))
    go (Some q) e more again =
        let s = spell_some at c in
        let r = kids format q c in
        let from = body_at at c + 0 in
        let mid = from + length (spell_all r.chunks) in
        let joined : spell_all r.chunks ++ r.left ≡ c.body = chunks_joined atom_front atoms_give_back inside c.body bytes in
        let room : mid ≤ at + length (spell c) = omega (arith, s.1, ap length joined, length-append (spell_all r.chunks) r.left) in
        let parts = all_parts StepFine (along (walk format d q) from r.chunks) _ more in
        let kids_in : InOrder from (along (walk format d q) from r.chunks) mid = along_order (walk format d q) (again q) from r.chunks (bytes_of r.chunks r.left (rw joined bytes)) parts.0 in
        let none : AllByRecursion (EndsBy from) (step_tables (chunk_at p at c)) = subst (AllByRecursion (EndsBy from)) (sym (no_tables p q at c e)) tt in
        (omega arith, (from, (omega (arith, s.0), omega (arith, s.0), none, order_both from mid (at + length (spell c)) (along (walk format d q) from r.chunks) _ kids_in (tt, (mid, (omega arith, tt, tt, room))))))

-- ---- by how much the tables before a place grow

abbrev pub grown_to : ℕ → List RowTable → ℕ
grown_to p rs = sum_by (λ (r : RowTable). cond (nat_lt r.at p) (row_growth r) 0) rs

-- a table without rows doesn't grow
abbrev pub Grows : RowTable → Type 0
Grows r = r.width.bytes * r.rows ≡ 0 → row_growth r ≡ 0

pub to_both : (p : ℕ) (xs ys : List RowTable) → grown_to p (xs ++ ys) ≡ grown_to p xs + grown_to p ys
to_both p xs ys = sum_by-append (λ (r : RowTable). cond (nat_lt r.at p) (row_growth r) 0) xs ys

pub to_none : (p : ℕ) (rs : List RowTable) → AllByRecursion (λ (r : RowTable). p ≤ r.at) rs → grown_to p rs ≡ 0
to_none p [] h = refl
to_none p (r ∷ rs) h =
    let here : cond (nat_lt r.at p) (row_growth r) 0 ≡ 0 = ap (λ (t : Bool). cond t (row_growth r) 0) (le-ltb r.at p h.0) in
    omega (arith, sum_by-cons (λ (r : RowTable). cond (nat_lt r.at p) (row_growth r) 0) r rs, here, to_none p rs h.1)

one_grown : (p : ℕ) (r : RowTable) → EndsBy p r → Grows r → cond (nat_lt r.at p) (row_growth r) 0 ≡ row_growth r
one_grown p r e g = go (cases_lt r.at p)
  where
    go : (r.at < p) ⊎ (p ≤ r.at) → cond (nat_lt r.at p) (row_growth r) 0 ≡ row_growth r
    go (inl lt) = ap (λ (t : Bool). cond t (row_growth r) 0) (lt-ltb r.at p lt)
    go (inr le) = ap (λ (t : Bool). cond t (row_growth r) 0) (le-ltb r.at p le) ∙ sym (g (omega (arith, e, le)))

pub to_all : (p : ℕ) (rs : List RowTable) → AllByRecursion (EndsBy p) rs → AllByRecursion Grows rs → grown_to p rs ≡ sum_by row_growth rs
to_all p [] e g = refl
to_all p (r ∷ rs) e g =
    let here = one_grown p r e.0 g.0 in
    omega (arith, sum_by-cons (λ (r : RowTable). cond (nat_lt r.at p) (row_growth r) 0) r rs, sum_by-cons row_growth r rs, here, to_all p rs e.1 g.1)

step_grows : (s : Step Place) → AllByRecursion Grows (step_tables s)
step_grows (chunk_at stbl at c) = go (is c (codes "stco")) (is c (codes "co64"))
  where
    go : (t u : Bool) → AllByRecursion Grows (cond t (table_of be32 at c ∷ []) (cond u (table_of be64 at c ∷ []) []))
    go true u = ((λ z. omega (arith, z)), tt)
    go false true = ((λ z. omega arith), tt)
    go false false = tt
step_grows (chunk_at file at c) = tt
step_grows (chunk_at user_data at c) = tt
step_grows (chunk_at moov at c) = tt
step_grows (chunk_at trak at c) = tt
step_grows (chunk_at mdia at c) = tt
step_grows (chunk_at minf at c) = tt
step_grows (chunk_at dinf at c) = tt
step_grows (end_at p at stop) = tt

pub all_grow : (ss : List (Step Place)) → AllByRecursion Grows (flat_map step_tables ss)
all_grow [] = tt
all_grow (s ∷ ss) = all_join Grows (step_tables s) (flat_map step_tables ss) (step_grows s) (all_grow ss)

-- ---- the same at any depth that is deep enough

abbrev pub level : Place → ℕ
level file = 0
level user_data = 0
level moov = 4
level trak = 3
level mdia = 2
level minf = 1
level stbl = 0
level dinf = 0

when_level : (t : Bool) (p q : Place) (n : ℕ) → level p ≤ n → Rattle.mov_model.specs.Atoms.when t p ≡ Some q → level q ≤ n
when_level true p q n le e = let same : p ≡ q = ap (λ (o : Option Place). elim o [ Some r ↦ r | None ↦ p ]) e in omega (arith, ap level same, le)
when_level false p q n le e = absurd cc

pub deeper : (p q : Place) (id word : List ℕ) → opens p id word ≡ Some q → suc (level q) ≤ level p
deeper file q id word e = absurd cc
deeper user_data q id word e = absurd cc
deeper moov q id word e = omega (arith, when_level (Rattle.std.specs.Str.bytes_eq id (codes "trak")) trak q 3 (omega arith) e)
deeper trak q id word e = omega (arith, when_level (Rattle.std.specs.Str.bytes_eq id (codes "mdia")) mdia q 2 (omega arith) e)
deeper mdia q id word e = omega (arith, when_level (Rattle.std.specs.Str.bytes_eq id (codes "minf")) minf q 1 (omega arith) e)
deeper minf q id word e = go (Rattle.std.specs.Str.bytes_eq id (codes "stbl")) (Rattle.std.specs.Str.bytes_eq id (codes "dinf")) e
  where
    go : (t u : Bool) → Rattle.mov_model.specs.Atoms.either t stbl (Rattle.mov_model.specs.Atoms.when u dinf) ≡ Some q → suc (level q) ≤ 1
    go true u e = omega (arith, when_level true stbl q 0 (omega arith) e)
    go false u e = omega (arith, when_level u dinf q 0 (omega arith) e)
deeper stbl q id word e = absurd cc
deeper dinf q id word e = absurd cc

step_same : (p : Place) (at to : ℕ) (c : Chunk) → sum_by row_growth (step_tables (chunk_at p at c)) ≡ sum_by row_growth (step_tables (chunk_at p to c))
step_same stbl at to c = go (is c (codes "stco")) (is c (codes "co64"))
  where
    go : (t u : Bool) → sum_by row_growth (cond t (table_of be32 at c ∷ []) (cond u (table_of be64 at c ∷ []) [])) ≡ sum_by row_growth (cond t (table_of be32 to c ∷ []) (cond u (table_of be64 to c ∷ []) []))
    go true u = refl
    go false true = refl
    go false false = refl
step_same file at to c = refl
step_same user_data at to c = refl
step_same moov at to c = refl
step_same trak at to c = refl
step_same mdia at to c = refl
step_same minf at to c = refl
step_same dinf at to c = refl

pub growth_both : (xs ys : List (Step Place)) → rows_growth (xs ++ ys) ≡ rows_growth xs + rows_growth ys
growth_both xs ys = ap (sum_by row_growth) (flat_map-append step_tables xs ys) ∙ sum_by-append row_growth (flat_map step_tables xs) (flat_map step_tables ys)

along_same : (g h : ℕ → Chunk → List (Step Place)) → ((at to : ℕ) (c : Chunk) → rows_growth (g at c) ≡ rows_growth (h to c)) → (at to : ℕ) (cs : List Chunk) → rows_growth (along g at cs) ≡ rows_growth (along h to cs)
along_same g h same at to [] = refl
along_same g h same at to (c ∷ cs) =
    omega (arith, growth_both (g at c) (along g (at + length (spell c)) cs), growth_both (h to c) (along h (to + length (spell c)) cs), same at to c, along_same g h same (at + length (spell c)) (to + length (spell c)) cs)

first_growth : (s : Step Place) (ss : List (Step Place)) → rows_growth (s ∷ ss) ≡ sum_by row_growth (step_tables s) + rows_growth ss
first_growth s ss = sum_by-append row_growth (step_tables s) (flat_map step_tables ss)

head_same : (p : Place) (at to : ℕ) (c : Chunk) (xs ys : List (Step Place)) → rows_growth xs ≡ rows_growth ys → rows_growth (chunk_at p at c ∷ xs) ≡ rows_growth (chunk_at p to c ∷ ys)
head_same p at to c xs ys e = omega (arith, first_growth (chunk_at p at c) xs, first_growth (chunk_at p to c) ys, step_same p at to c, e)

-- no atom is opened at the lowest level
low_closed : (p : Place) (c : Chunk) (d : ℕ) (at : ℕ) (o : Option Place) → opens p c.id (take 4 c.body) ≡ o → level p ≤ 0 → rows_growth (walk_at format (walk format d) at c o) ≡ 0
low_closed p c d at None e le = refl
low_closed p c d at (Some q) e le = absurd (omega (arith, deeper p q c.id (take 4 c.body) e, le))

pub walk_same : (d e : ℕ) (p : Place) (at to : ℕ) (c : Chunk) → level p ≤ d → level p ≤ e → rows_growth (walk format d p at c) ≡ rows_growth (walk format e p to c)
unfolding walk
walk_same zero zero p at to c le lf = head_same p at to c [] [] refl
walk_same zero (suc e) p at to c le lf = head_same p at to c [] (walk_at format (walk format e) to c (opens p c.id (take 4 c.body))) (sym (low_closed p c e to (opens p c.id (take 4 c.body)) refl le))
walk_same (suc d) zero p at to c le lf = head_same p at to c (walk_at format (walk format d) at c (opens p c.id (take 4 c.body))) [] (low_closed p c d at (opens p c.id (take 4 c.body)) refl lf)
walk_same (suc d) (suc e) p at to c le lf =
    head_same p at to c (walk_at format (walk format d) at c (opens p c.id (take 4 c.body))) (walk_at format (walk format e) to c (opens p c.id (take 4 c.body)))
    (go (opens p c.id (take 4 c.body)) refl (λ q a b x l m. walk_same d e q a b x l m))
  where
    go : (o : Option Place) → opens p c.id (take 4 c.body) ≡ o → ((q : Place) (a b : ℕ) (x : Chunk) → level q ≤ d → level q ≤ e → rows_growth (walk format d q a x) ≡ rows_growth (walk format e q b x))
        → rows_growth (walk_at format (walk format d) at c o) ≡ rows_growth (walk_at format (walk format e) to c o)
    go None eq again = refl
    go (Some q) eq again =
        let down = deeper p q c.id (take 4 c.body) eq in
        let r = kids format q c in
        let same = along_same (walk format d q) (walk format e q) (λ a b x. again q a b x (omega (arith, down, le)) (omega (arith, down, lf))) (body_at at c + 0) (body_at to c + 0) r.chunks in
        omega (arith, growth_both (along (walk format d q) (body_at at c + 0) r.chunks) (end_at q (body_at at c + (0 + length (spell_all r.chunks))) r.stop ∷ []), growth_both (along (walk format e q) (body_at to c + 0) r.chunks) (end_at q (body_at to c + (0 + length (spell_all r.chunks))) r.stop ∷ []), same)
