-- Tables among the spans of units, by place: what a plan's list of both is to that of the definitions.
use Rattle.std.proofs.Common.{◌≡◌, ◌∙◌, ℕ, ◌+◌, ◌≤◌, ◌<◌, Bool, true, false, cond, List, [], ◌∷◌, ◌++◌, length, map, refl, ap, arith, append_assoc}
use Rattle.std.specs.Prelude.{nat_le}
use Rattle.std.specs.List.{AllByRecursion, flat_map}
use Rattle.std.proofs.lemmas.Bool.{le-leb, lt-leb}
use Rattle.std.proofs.lemmas.List.{length-append}
use Rattle.part_tree.specs.Moves.{Move}
use Rattle.container_model.specs.Chunk.{Chunk, spell, spell_all}
use Rattle.container_model.specs.Cuts.{cuts_with}
use Rattle.container_model.specs.Splice.{Cut}
use Rattle.container_model.specs.Units.{Fill, Piece, copied, cut_of, cuts, replaced}
use Rattle.container_model.specs.Walk.{walk}
use Rattle.container_model.proofs.Units.{From, cuts_from}
use Rattle.container_model.proofs.Walk.{all_join}
use Rattle.mov_model.specs.Atoms.{format, moov}
use Rattle.mov_model.specs.Cuts.{RowTable, step_tables}
use Rattle.unit_plan.specs.Cuts.{cut_in}
use Rattle.unit_plan.specs.declared.cut.CutAt.{CutAt}
use Rattle.mov_plan.specs.Tables.{merged, rows_of, table_in, tables_behind, tables_up_to}
use Rattle.mov_plan.specs.declared.tables.TableAt.{TableAt}

-- the tables that begin at a place or before it, and those behind it
abbrev pub rows_up_to : ℕ → List RowTable → List RowTable
rows_up_to p [] = []
rows_up_to p (r ∷ rs) = cond (nat_le r.at p) (r ∷ rows_up_to p rs) []

abbrev pub rows_behind : ℕ → List RowTable → List RowTable
rows_behind p [] = []
rows_behind p (r ∷ rs) = cond (nat_le r.at p) (rows_behind p rs) (r ∷ rs)

-- the tables in an atom of moov at a place
abbrev pub kid_rows : ℕ → Chunk → List RowTable
kid_rows at c = flat_map step_tables (walk format 5 moov at c)

-- those in the atoms that are copied
abbrev pub piece_rows : ℕ → List Piece → List RowTable
piece_rows at [] = []
piece_rows at (copied c ∷ ps) = kid_rows at c ++ piece_rows (at + length (spell c)) ps
piece_rows at (replaced lead slot now last ∷ ps) = piece_rows (at + length (spell_all lead ++ slot)) ps

-- tables begin behind a place, and end the list at another one or before it
abbrev pub Begins : ℕ → ℕ → RowTable → Type 0
Begins low high r = (low < r.at) × (r.at ≤ high)

-- those in the atoms that are copied begin in them
abbrev pub Placed : ℕ → List Piece → Type 0
Placed at [] = Unit {0}
Placed at (copied c ∷ ps) = AllByRecursion (Begins at (at + length (spell c))) (kid_rows at c) × Placed (at + length (spell c)) ps
Placed at (replaced lead slot now last ∷ ps) = Placed (at + length (spell_all lead ++ slot)) ps

pub map-both : {X Y : Type 0} (g : X → Y) (a b : List X) → map g (a ++ b) ≡ map g a ++ map g b
map-both g [] b = refl
map-both {Y = Y} g (x ∷ a) b = ap (λ (y : List Y). g x ∷ y) (map-both g a b)

pub all_weaken : {X : Type 0} (P Q : X → Type 0) → ((x : X) → P x → Q x) → (xs : List X) → AllByRecursion P xs → AllByRecursion Q xs
all_weaken P Q f [] h = tt
all_weaken P Q f (x ∷ xs) h = (f x h.0, all_weaken P Q f xs h.1)

module _ (g : RowTable → Cut) where
  -- spans and tables by place
  abbrev pub mixed : List Cut → List RowTable → List Cut
  mixed [] rs = map g rs
  mixed (k ∷ ks) rs = map g (rows_up_to k.at rs) ++ k ∷ mixed ks (rows_behind k.at rs)

  -- ---- the list of a plan

  module _ (w : Bool) (ms : List Move) (b : List ℕ) where
    abbrev pub IsRow : TableAt → Type 0
    IsRow t = table_in w ms b t ≡ g (rows_of t)

    all_rows : (ts : List TableAt) → AllByRecursion IsRow ts → map (table_in w ms b) ts ≡ map g (map rows_of ts)
    all_rows [] h = refl
    all_rows (t ∷ ts) h = ap (λ (x : Cut). x ∷ map (table_in w ms b) ts) h.0 ∙ ap (λ (x : List Cut). g (rows_of t) ∷ x) (all_rows ts h.1)

    up_to_rows : (p : ℕ) (ts : List TableAt) → AllByRecursion IsRow ts → map (table_in w ms b) (tables_up_to p ts) ≡ map g (rows_up_to p (map rows_of ts))
    up_to_rows p [] h = refl
    up_to_rows p (t ∷ ts) h = go (nat_le t.at p) (up_to_rows p ts h.1)
      where
        go : (u : Bool) → map (table_in w ms b) (tables_up_to p ts) ≡ map g (rows_up_to p (map rows_of ts))
            → map (table_in w ms b) (cond u (t ∷ tables_up_to p ts) []) ≡ map g (cond u (rows_of t ∷ rows_up_to p (map rows_of ts)) [])
        go true again = ap (λ (x : Cut). x ∷ map (table_in w ms b) (tables_up_to p ts)) h.0 ∙ ap (λ (x : List Cut). g (rows_of t) ∷ x) again
        go false again = refl

    behind_rows : (p : ℕ) (ts : List TableAt) → AllByRecursion IsRow ts → (map rows_of (tables_behind p ts) ≡ rows_behind p (map rows_of ts)) × AllByRecursion IsRow (tables_behind p ts)
    behind_rows p [] h = (refl, tt)
    behind_rows p (t ∷ ts) h = go (nat_le t.at p) (behind_rows p ts h.1)
      where
        go : (u : Bool) → (map rows_of (tables_behind p ts) ≡ rows_behind p (map rows_of ts)) × AllByRecursion IsRow (tables_behind p ts)
            → (map rows_of (cond u (tables_behind p ts) (t ∷ ts)) ≡ cond u (rows_behind p (map rows_of ts)) (rows_of t ∷ map rows_of ts)) × AllByRecursion IsRow (cond u (tables_behind p ts) (t ∷ ts))
        go true again = again
        go false again = (refl, h)

    pub merged_is : (ks : List CutAt) (ts : List TableAt) → AllByRecursion IsRow ts → merged w ms b ks ts ≡ mixed (map (cut_in b) ks) (map rows_of ts)
    merged_is [] ts h = all_rows ts h
    merged_is (k ∷ ks) ts h =
        let p = k.span.at in
        let r = behind_rows p ts h in
        ap (λ (x : List Cut). x ++ cut_in b k ∷ merged w ms b ks (tables_behind p ts)) (up_to_rows p ts h)
        ∙ ap (λ (x : List Cut). map g (rows_up_to p (map rows_of ts)) ++ cut_in b k ∷ x) (merged_is ks (tables_behind p ts) r.1)
        ∙ ap (λ (x : List RowTable). map g (rows_up_to p (map rows_of ts)) ++ cut_in b k ∷ mixed (map (cut_in b) ks) x) r.0

  -- ---- tables before all spans, and behind one

  up_to_past : (p next : ℕ) (xs ys : List RowTable) → next ≤ p → AllByRecursion (λ r. r.at ≤ next) xs → rows_up_to p (xs ++ ys) ≡ xs ++ rows_up_to p ys
  up_to_past p next [] ys le h = refl
  up_to_past p next (r ∷ xs) ys le h =
      ap (λ (u : Bool). cond u (r ∷ rows_up_to p (xs ++ ys)) []) (le-leb r.at p (omega (arith, le, h.0)))
      ∙ ap (λ (x : List RowTable). r ∷ x) (up_to_past p next xs ys le h.1)

  behind_past : (p next : ℕ) (xs ys : List RowTable) → next ≤ p → AllByRecursion (λ r. r.at ≤ next) xs → rows_behind p (xs ++ ys) ≡ rows_behind p ys
  behind_past p next [] ys le h = refl
  behind_past p next (r ∷ xs) ys le h =
      ap (λ (u : Bool). cond u (rows_behind p (xs ++ ys)) (r ∷ (xs ++ ys))) (le-leb r.at p (omega (arith, le, h.0)))
      ∙ behind_past p next xs ys le h.1

  pub mixed_past : (cs : List Cut) (next : ℕ) (xs ys : List RowTable) → From next cs → AllByRecursion (λ r. r.at ≤ next) xs → mixed cs (xs ++ ys) ≡ map g xs ++ mixed cs ys
  mixed_past [] next xs ys from h = map-both g xs ys
  mixed_past (k ∷ ks) next xs ys from h =
      let up = rows_up_to k.at ys in
      let rest = rows_behind k.at ys in
      ap (λ (x : List RowTable). map g x ++ k ∷ mixed ks (rows_behind k.at (xs ++ ys))) (up_to_past k.at next xs ys from h)
      ∙ ap (λ (x : List RowTable). map g (xs ++ up) ++ k ∷ mixed ks x) (behind_past k.at next xs ys from h)
      ∙ ap (λ (x : List Cut). x ++ k ∷ mixed ks rest) (map-both g xs up)
      ∙ append_assoc (map g xs) (map g up) (k ∷ mixed ks rest)

  pub mixed_first : (k : Cut) (ks : List Cut) (rs : List RowTable) → AllByRecursion (λ r. k.at < r.at) rs → mixed (k ∷ ks) rs ≡ k ∷ mixed ks rs
  mixed_first k ks [] h = refl
  mixed_first k ks (r ∷ rs) h =
      ap (λ (u : Bool). map g (cond u (r ∷ rows_up_to k.at rs) []) ++ k ∷ mixed ks (cond u (rows_behind k.at rs) (r ∷ rs))) (lt-leb r.at k.at h.0)

  -- ---- pieces

  pub rows_past : (at : ℕ) (ps : List Piece) → Placed at ps → AllByRecursion (λ r. at < r.at) (piece_rows at ps)
  rows_past at [] h = tt
  rows_past at (copied c ∷ ps) h =
      let next = at + length (spell c) in
      all_join (λ r. at < r.at) (kid_rows at c) (piece_rows next ps)
      (all_weaken (Begins at next) (λ r. at < r.at) (λ r x. x.0) (kid_rows at c) h.0)
      (all_weaken (λ r. next < r.at) (λ r. at < r.at) (λ r x. omega (arith, x)) (piece_rows next ps) (rows_past next ps h.1))
  rows_past at (replaced lead slot now last ∷ ps) h =
      let next = at + length (spell_all lead ++ slot) in
      all_weaken (λ r. next < r.at) (λ r. at < r.at) (λ r x. omega (arith, x)) (piece_rows next ps) (rows_past next ps h)

  -- The spans of units among the tables of the atoms that are copied.
  pub mixed_pieces : (fill : Fill) (at : ℕ) (ps : List Piece) → Placed at ps → mixed (cuts fill at ps) (piece_rows at ps) ≡ cuts_with (λ at c. map g (kid_rows at c)) fill at ps
  mixed_pieces fill at [] h = refl
  mixed_pieces fill at (copied c ∷ ps) h =
      let next = at + length (spell c) in
      mixed_past (cuts fill next ps) next (kid_rows at c) (piece_rows next ps) (cuts_from fill next ps next (omega arith)) (all_weaken (Begins at next) (λ r. r.at ≤ next) (λ r x. x.1) (kid_rows at c) h.0)
      ∙ ap (λ (x : List Cut). map g (kid_rows at c) ++ x) (mixed_pieces fill next ps h.1)
  mixed_pieces fill at (replaced lead slot now last ∷ ps) h =
      let next = at + length (spell_all lead ++ slot) in
      let k = cut_of fill at lead slot now last in
      mixed_first k (cuts fill next ps) (piece_rows next ps) (all_weaken (λ r. next < r.at) (λ r. k.at < r.at) (λ r x. omega (arith, x, length-append (spell_all lead) slot)) (piece_rows next ps) (rows_past next ps h))
      ∙ ap (λ (x : List Cut). k ∷ x) (mixed_pieces fill next ps h)
