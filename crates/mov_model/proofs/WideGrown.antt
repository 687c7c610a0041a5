-- By how much an atom with wide tables is longer: by the rows of the tables in it.
use Rattle.std.proofs.Common.{Bool, List, None, Option, Some, [], ap, arith, cond, false, inl, inr, length, map, refl, suc, sym, take, true, zero, ℕ, ◌*◌, ◌++◌, ◌+◌, ◌-◌, ◌<◌, ◌^◌, ◌∙◌, ◌∷◌, ◌≡◌, ◌≤◌}
use Rattle.std.specs.Prelude.{codes, sum_by}
use Rattle.std.specs.List.{AllByRecursion, flat_map}
use Rattle.std.specs.Str.{bytes_eq}
use Rattle.std.proofs.lemmas.List.{length-append}
use Rattle.std.proofs.lemmas.List.Concat.{flat_map-append}
use Rattle.std.proofs.lemmas.List.Sums.{sum_by-append}
use Rattle.container_model.proofs.Codec.{IsBytes, IsBytes-behind}
use Rattle.container_model.proofs.Deep.{IsBytes-front}
use Rattle.container_model.proofs.Items.{same_true}
use Rattle.container_model.proofs.Read.{Atom}
use Rattle.container_model.specs.Atoms.{is}
use Rattle.container_model.specs.Chunk.{Chunk, header_bytes, spell, spell_all}
use Rattle.container_model.specs.Deep.{Leaf, Whole, Whole_at, kids, leaves, leaves_at, with_kids}
use Rattle.container_model.specs.Rows.{be32, be64}
use Rattle.container_model.specs.Sizes.{inside}
use Rattle.container_model.specs.Walk.{Step, along, body_at, chunk_at, end_at, walk, walk_at}
use Rattle.mov_model.specs.Atoms.{Place, dinf, either, file, format, mdia, minf, moov, opens, stbl, trak, user_data, when}
use Rattle.mov_model.specs.Cuts.{step_tables, table_of}
use Rattle.mov_model.specs.Tables.{in_stbl}
use Rattle.mov_model.specs.Widen.{wide_at, wide_body, wide_in, wide_leaf, wide_table}
use Rattle.mov_model.specs.WideCuts.{row_growth, rows_growth}
use Rattle.mov_model.proofs.Clauses.{header_len}
use Rattle.mov_model.proofs.Wide.{wide_length}
use Rattle.mov_model.proofs.WideDeep.{AllReady, Ready, all_two, body_bytes, head_length, kids_ready, tables_of}
use Rattle.sample_tables.proofs.Moved.{long_rows}
use Rattle.sample_tables.specs.Tables.{count, is_short_table}

-- ---- how deep atoms are opened

-- so many levels are opened in an atom of a place
abbrev pub rank : Place → ℕ
rank file = 0
rank user_data = 0
rank moov = 4
rank trak = 3
rank mdia = 2
rank minf = 1
rank stbl = 0
rank dinf = 0

abbrev some_rank : Option Place → ℕ
some_rank None = 0
some_rank (Some p) = rank p

when_down : (t : Bool) (p q : Place) → when t p ≡ Some q → rank p ≡ rank q
when_down true p q e = ap some_rank e
when_down false p q e = absurd cc

pub rank_down : (p q : Place) (id word : List ℕ) → opens p id word ≡ Some q → rank q < rank p
rank_down file q id word e = absurd cc
rank_down user_data q id word e = absurd cc
rank_down moov q id word e = omega (arith, when_down (bytes_eq id (codes "trak")) trak q e)
rank_down trak q id word e = omega (arith, when_down (bytes_eq id (codes "mdia")) mdia q e)
rank_down mdia q id word e = omega (arith, when_down (bytes_eq id (codes "minf")) minf q e)
rank_down minf q id word e = go (bytes_eq id (codes "stbl")) e
  where
    go : (t : Bool) → either t stbl (when (bytes_eq id (codes "dinf")) dinf) ≡ Some q → rank q < 1
    go true e = omega (arith, ap some_rank e)
    go false e = omega (arith, when_down (bytes_eq id (codes "dinf")) dinf q e)
rank_down stbl q id word e = absurd cc
rank_down dinf q id word e = absurd cc

pub no_opens : (p : Place) (id word : List ℕ) → rank p ≤ 0 → opens p id word ≡ None
no_opens file id word low = refl
no_opens user_data id word low = refl
no_opens moov id word low = absurd (omega arith)
no_opens trak id word low = absurd (omega arith)
no_opens mdia id word low = absurd (omega arith)
no_opens minf id word low = absurd (omega arith)
no_opens stbl id word low = refl
no_opens dinf id word low = refl

-- ---- the rows that are met

pub growth_two : (a b : List (Step Place)) → rows_growth (a ++ b) ≡ rows_growth a + rows_growth b
growth_two a b = ap (sum_by row_growth) (flat_map-append step_tables a b) ∙ sum_by-append row_growth (flat_map step_tables a) (flat_map step_tables b)

-- what one atom holds as a table
abbrev pub one_growth : Place → ℕ → Chunk → ℕ
one_growth p at c = rows_growth (chunk_at p at c ∷ [])

pub opened_none : (p q : Place) (at : ℕ) (c : Chunk) → opens p c.id (take 4 c.body) ≡ Some q → one_growth p at c ≡ 0
opened_none file q at c e = refl
opened_none user_data q at c e = refl
opened_none moov q at c e = refl
opened_none trak q at c e = refl
opened_none mdia q at c e = refl
opened_none minf q at c e = refl
opened_none stbl q at c e = absurd cc
opened_none dinf q at c e = refl

one_place : (p : Place) (at to : ℕ) (c : Chunk) → one_growth p at c ≡ one_growth p to c
one_place stbl at to c = go (is c (codes "stco")) (is c (codes "co64"))
  where
    go : (t u : Bool) → sum_by row_growth (cond t (table_of be32 at c ∷ []) (cond u (table_of be64 at c ∷ []) []) ++ []) ≡ sum_by row_growth (cond t (table_of be32 to c ∷ []) (cond u (table_of be64 to c ∷ []) []) ++ [])
    go true u = refl
    go false true = refl
    go false false = refl
one_place file at to c = refl
one_place user_data at to c = refl
one_place moov at to c = refl
one_place trak at to c = refl
one_place mdia at to c = refl
one_place minf at to c = refl
one_place dinf at to c = refl

along_same : (d e : ℕ) (q : Place) → ((at to : ℕ) (c : Chunk) → rows_growth (walk format d q at c) ≡ rows_growth (walk format e q to c)) → (at to : ℕ) (cs : List Chunk) → rows_growth (along (walk format d q) at cs) ≡ rows_growth (along (walk format e q) to cs)
along_same d e q each at to [] = refl
along_same d e q each at to (c ∷ cs) =
    let x = along_same d e q each (at + length (spell c)) (to + length (spell c)) cs in
    omega (
      arith,
      x,
      each at to c,
      growth_two (walk format d q at c) (along (walk format d q) (at + length (spell c)) cs),
      growth_two (walk format e q to c) (along (walk format e q) (to + length (spell c)) cs),
    )

-- what is met at the end of an atom is no row
pub opened_growth : (d : ℕ) (q : Place) (at : ℕ) (c : Chunk) → rows_growth (walk_at format (walk format d) at c (Some q)) ≡ rows_growth (along (walk format d q) (body_at at c + 0) (kids format q c).chunks)
opened_growth d q at c =
    let a = along (walk format d q) (body_at at c + 0) (kids format q c).chunks in
    let b = end_at q (body_at at c + (0 + length (spell_all (kids format q c).chunks))) (kids format q c).stop ∷ [] in
    let none : rows_growth b ≡ 0 = refl in
    omega (arith, growth_two a b, none)

at_same : (d e : ℕ) → ((q : Place) (at to : ℕ) (c : Chunk) → rank q ≤ d → rank q ≤ e → rows_growth (walk format d q at c) ≡ rows_growth (walk format e q to c)) → (p : Place) (at to : ℕ) (c : Chunk) (o : Option Place) → opens p c.id (take 4 c.body) ≡ o → rank p ≤ suc d → rank p ≤ suc e
    → rows_growth (walk_at format (walk format d) at c o) ≡ rows_growth (walk_at format (walk format e) to c o)
at_same d e each p at to c None i low high = refl
at_same d e each p at to c (Some q) i low high =
    let down = rank_down p q c.id (take 4 c.body) i in
    opened_growth d q at c ∙ along_same d e q (λ x y k. each q x y k (omega (arith, down)) (omega (arith, down))) (body_at at c + 0) (body_at to c + 0) (kids format q c).chunks ∙ sym (opened_growth e q to c)

-- However deep is looked, the same rows are met.
pub same_growth : (d e : ℕ) (p : Place) (at to : ℕ) (c : Chunk) → rank p ≤ d → rank p ≤ e → rows_growth (walk format d p at c) ≡ rows_growth (walk format e p to c)
unfolding walk
same_growth zero zero p at to c low high = one_place p at to c
same_growth zero (suc e) p at to c low high =
    let none = no_opens p c.id (take 4 c.body) low in
    one_place p at to c ∙ ap (λ (o : Option Place). rows_growth (chunk_at p to c ∷ walk_at format (walk format e) to c o)) (sym none)
same_growth (suc d) zero p at to c low high =
    let none = no_opens p c.id (take 4 c.body) high in
    ap (λ (o : Option Place). rows_growth (chunk_at p at c ∷ walk_at format (walk format d) at c o)) none ∙ one_place p at to c
same_growth (suc d) (suc e) p at to c low high =
    let o = opens p c.id (take 4 c.body) in
    let a = walk_at format (walk format d) at c o in
    let b = walk_at format (walk format e) to c o in
    omega (
      arith,
      growth_two (chunk_at p at c ∷ []) a,
      growth_two (chunk_at p to c ∷ []) b,
      one_place p at to c,
      at_same d e (λ q x y k l h. same_growth d e q x y k l h) p at to c o refl low high,
    )

-- ---- an atom with wide tables

pub ready_each : (d : ℕ) (q : Place) (cs : List Chunk) → AllReady d q cs → AllByRecursion (Ready d q) cs
ready_each d q [] r = tt
ready_each d q (c ∷ cs) r =
    let x = leaves format d q c in
    let y = flat_map (leaves format d q) cs in
    let t = all_two (λ c. is_short_table c ≡ false) (tables_of x) (tables_of y) (Rattle.std.proofs.Common.subst (AllByRecursion (λ c. is_short_table c ≡ false)) (flat_map-append (λ (l : Leaf Place). in_stbl l.place l.chunk) x y) r.tables) in
    let len = length-append (spell c) (spell_all cs) in
    let body : length c.body ≤ length (spell c) = omega (arith, length-append (header_bytes c.form c.id (length c.body)) (c.body ++ c.pad), length-append c.body c.pad) in (
      record { read = r.read.0; bytes = IsBytes-front (spell c) (spell_all cs) r.bytes; whole = r.whole.0; tables = t.0; small = omega (arith, r.small, len, body) },
      ready_each d q cs (record { read = r.read.1; bytes = IsBytes-behind (spell c) (spell_all cs) r.bytes; whole = r.whole.1; tables = t.1; small = omega (arith, r.small, len) }),
    )

-- what is in an atom that is opened
pub kids_are_ready : (d : ℕ) (q : Place) (c : Chunk) → IsBytes (spell c) → Whole_at format (Whole format d) c (Some q) → AllByRecursion (λ c. is_short_table c ≡ false) (tables_of (flat_map (leaves format d q) (kids format q c).chunks)) → length c.body ≤ 2 ^ 26
    → AllReady d q (kids format q c).chunks × (spell_all (kids format q c).chunks ++ (kids format q c).left ≡ c.body)
kids_are_ready d q c h w t small = let r = kids_ready d q c (body_bytes c h) w.0 w.2 t small in (r.0, r.2)

-- the length of an atom by its parts
pub spell_parts : (c : Chunk) → length (spell c) ≡ length (header_bytes c.form c.id (length c.body)) + (length c.body + length c.pad)
spell_parts c = omega (arith, length-append (header_bytes c.form c.id (length c.body)) (c.body ++ c.pad), length-append c.body c.pad)

table_grows : (at : ℕ) (c : Chunk) → Atom inside c → is_short_table c ≡ false → IsBytes c.body → length (spell (wide_table c)) ≡ length (spell c) + one_growth stbl at c
table_grows at c a fine bytes = go (is c (codes "stco")) (is c (codes "co64")) refl
  where
    go : (t u : Bool) → is c (codes "stco") ≡ t → length (spell (cond t (record c { id = codes "co64"; body = wide_body c }) c)) ≡ length (spell c) + sum_by row_growth (cond t (table_of be32 at c ∷ []) (cond u (table_of be64 at c ∷ []) []) ++ [])
    go true u e =
        let w = record c { id = codes "co64"; body = wide_body c } in
        let longer = wide_length c ((long_rows c fine).0 e) bytes in
        let same_id : length (codes "co64") ≡ length c.id = ap length (sym (same_true c.id (codes "stco") e)) in
        let head = head_length c.form (codes "co64") c.id (length (wide_body c)) (length c.body) a.short_or_long same_id in
        let rows : sum_by row_growth (table_of be32 at c ∷ []) ≡ 4 * count c = omega arith in
        omega (arith, spell_parts w, spell_parts c, longer, head, rows)
    go false true e = let rows : sum_by row_growth (table_of be64 at c ∷ []) ≡ 0 = omega arith in omega (arith, rows)
    go false false e = omega arith

leaf_grows : (p : Place) (at : ℕ) (c : Chunk) → Atom inside c → IsBytes c.body → AllByRecursion (λ c. is_short_table c ≡ false) (in_stbl p c) → length (spell (wide_leaf p c)) ≡ length (spell c) + one_growth p at c
leaf_grows stbl at c a b l = table_grows at c a l.0 b
leaf_grows file at c a b l = omega arith
leaf_grows user_data at c a b l = omega arith
leaf_grows moov at c a b l = omega arith
leaf_grows trak at c a b l = omega arith
leaf_grows mdia at c a b l = omega arith
leaf_grows minf at c a b l = omega arith
leaf_grows dinf at c a b l = omega arith

pub along_grows : (d : ℕ) (q : Place) → ((at : ℕ) (c : Chunk) → Ready d q c → length (spell (wide_in d q c)) ≡ length (spell c) + rows_growth (walk format d q at c)) → (at : ℕ) (cs : List Chunk) → AllByRecursion (Ready d q) cs
    → length (spell_all (map (wide_in d q) cs)) ≡ length (spell_all cs) + rows_growth (along (walk format d q) at cs)
along_grows d q each at [] r = refl
along_grows d q each at (c ∷ cs) r =
    let next = at + length (spell c) in
    omega (
      arith,
      each at c r.0,
      along_grows d q each next cs r.1,
      length-append (spell c) (spell_all cs),
      length-append (spell (wide_in d q c)) (spell_all (map (wide_in d q) cs)),
      growth_two (walk format d q at c) (along (walk format d q) next cs),
    )

at_grows : (d : ℕ) → ((q : Place) (at : ℕ) (c : Chunk) → Ready d q c → length (spell (wide_in d q c)) ≡ length (spell c) + rows_growth (walk format d q at c)) → (p : Place) (at : ℕ) (c : Chunk) (o : Option Place) → opens p c.id (take 4 c.body) ≡ o
    → Atom inside c → IsBytes (spell c) → Whole_at format (Whole format d) c o → AllByRecursion (λ c. is_short_table c ≡ false) (tables_of (leaves_at format (leaves format d) p c o)) → length c.body ≤ 2 ^ 26
    → length (spell (wide_at (wide_in d) p c o)) ≡ length (spell c) + (one_growth p at c + rows_growth (walk_at format (walk format d) at c o))
at_grows d each p at c None i a h w t small =
    let none : rows_growth (walk_at format (walk format d) at c None) ≡ 0 = refl in
    omega (arith, none, leaf_grows p at c a (body_bytes c h) (all_two (λ c. is_short_table c ≡ false) (in_stbl p c) [] t).0)
at_grows d each p at c (Some q) i a h w t small =
    let k = kids format q c in
    let r = kids_are_ready d q c h w t small in
    let es = map (wide_in d q) k.chunks in
    let e = with_kids format q c es in
    let more = along_grows d q (each q) (body_at at c + 0) k.chunks (ready_each d q k.chunks r.0) in
    omega (
      arith,
      more,
      opened_none p q at c i,
      opened_growth d q at c,
      spell_parts e,
      spell_parts c,
      header_len c.form c.id (length e.body) (length c.body),
      length-append (spell_all es) k.left,
      length-append (spell_all k.chunks) k.left,
      ap length r.1,
    )

pub wide_grows : (d : ℕ) (p : Place) (at : ℕ) (c : Chunk) → Ready d p c → length (spell (wide_in d p c)) ≡ length (spell c) + rows_growth (walk format d p at c)
unfolding wide_in walk Whole leaves
wide_grows zero p at c r = leaf_grows p at c r.read (body_bytes c r.bytes) (all_two (λ c. is_short_table c ≡ false) (in_stbl p c) [] r.tables).0
wide_grows (suc d) p at c r =
    let o = opens p c.id (take 4 c.body) in
    omega (arith, at_grows d (λ q x k y. wide_grows d q x k y) p at c o refl r.read r.bytes r.whole r.tables r.small, growth_two (chunk_at p at c ∷ []) (walk_at format (walk format d) at c o))
