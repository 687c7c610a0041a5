-- The headers of atoms, the slots of units and the rows of tables, by place.
use Rattle.std.proofs.Common.{◌≡◌, ◌∙◌, ℕ, ◌+◌, ◌≤◌, ◌<◌, Bool, true, false, cond, List, [], ◌∷◌, ◌++◌, length, map, refl, sym, ap, arith, append_assoc}
use Rattle.std.specs.Prelude.{nat_le, nat_lt}
use Rattle.std.specs.List.{AllByRecursion}
use Rattle.std.proofs.lemmas.Bool.{lt-leb, lt-ltb, le-ltb}
use Rattle.std.proofs.lemmas.List.{length-append}
use Rattle.container_model.specs.Chunk.{Chunk, spell, spell_all}
use Rattle.container_model.specs.Cuts.{cuts_with}
use Rattle.container_model.specs.Splice.{Cut}
use Rattle.container_model.specs.Units.{Fill, Piece, copied, cut_of, cuts, replaced}
use Rattle.container_model.proofs.Units.{From}
use Rattle.container_model.proofs.Walk.{all_join}
use Rattle.mov_model.specs.Cuts.{RowTable}
use Rattle.unit_plan.specs.Cuts.{cut_in}
use Rattle.unit_plan.specs.declared.cut.CutAt.{CutAt}
use Rattle.mov_plan.specs.Holders.{put_all, put_cut}
use Rattle.mov_plan.proofs.Mixed.{Placed, all_weaken, kid_rows, map-both, mixed, mixed_first, mixed_past, piece_rows, rows_behind, rows_past, rows_up_to}

-- ---- the slots among the headers

-- a span more behind those that begin before it
abbrev pub among : Cut → List Cut → List Cut
among u [] = u ∷ []
among u (k ∷ ks) = cond (nat_lt k.at u.at) (k ∷ among u ks) (u ∷ (k ∷ ks))

abbrev pub all_among : List Cut → List Cut → List Cut
all_among [] ks = ks
all_among (u ∷ us) ks = among u (all_among us ks)

put_among : (b : List ℕ) (u : CutAt) (ks : List CutAt) → map (cut_in b) (put_cut u ks) ≡ among (cut_in b u) (map (cut_in b) ks)
put_among b u [] = refl
put_among b u (k ∷ ks) = go (nat_lt k.span.at u.span.at) (put_among b u ks)
  where
    go : (t : Bool) → map (cut_in b) (put_cut u ks) ≡ among (cut_in b u) (map (cut_in b) ks)
        → map (cut_in b) (cond t (k ∷ put_cut u ks) (u ∷ (k ∷ ks))) ≡ cond t (cut_in b k ∷ among (cut_in b u) (map (cut_in b) ks)) (cut_in b u ∷ (cut_in b k ∷ map (cut_in b) ks))
    go true again = ap (λ (xs : List Cut). cut_in b k ∷ xs) again
    go false again = refl

pub put_all_among : (b : List ℕ) (us ks : List CutAt) → map (cut_in b) (put_all us ks) ≡ all_among (map (cut_in b) us) (map (cut_in b) ks)
put_all_among b [] ks = refl
put_all_among b (u ∷ us) ks = put_among b u (put_all us ks) ∙ ap (among (cut_in b u)) (put_all_among b us ks)

among_past : (u : Cut) (hs xs : List Cut) → AllByRecursion (λ (h : Cut). h.at < u.at) hs → among u (hs ++ xs) ≡ hs ++ among u xs
among_past u [] xs h = refl
among_past u (k ∷ hs) xs h =
    ap (λ (t : Bool). cond t (k ∷ among u (hs ++ xs)) (u ∷ (k ∷ (hs ++ xs)))) (lt-ltb k.at u.at h.0) ∙ ap (λ (ys : List Cut). k ∷ ys) (among_past u hs xs h.1)

among_first : (u : Cut) (xs : List Cut) → AllByRecursion (λ (x : Cut). u.at ≤ x.at) xs → among u xs ≡ u ∷ xs
among_first u [] h = refl
among_first u (k ∷ xs) h = ap (λ (t : Bool). cond t (k ∷ among u xs) (u ∷ (k ∷ xs))) (le-ltb k.at u.at h.0)

-- headers before all slots
all_past : (low : ℕ) (us hs xs : List Cut) → AllByRecursion (λ (u : Cut). low ≤ u.at) us → AllByRecursion (λ (h : Cut). h.at < low) hs → all_among us (hs ++ xs) ≡ hs ++ all_among us xs
all_past low [] hs xs us h = refl
all_past low (u ∷ us) hs xs all h =
    ap (among u) (all_past low us hs xs all.1 h) ∙ among_past u hs (all_among us xs) (all_weaken (λ (k : Cut). k.at < low) (λ (k : Cut). k.at < u.at) (λ k lt. omega (arith, lt, all.0)) hs h)

-- what holds of each of both
among_all : (P : Cut → Type 0) (u : Cut) (ks : List Cut) → P u → AllByRecursion P ks → AllByRecursion P (among u ks)
among_all P u [] p h = (p, tt)
among_all P u (k ∷ ks) p h = go (nat_lt k.at u.at) (among_all P u ks p h.1)
  where
    go : (t : Bool) → AllByRecursion P (among u ks) → AllByRecursion P (cond t (k ∷ among u ks) (u ∷ (k ∷ ks)))
    go true again = (h.0, again)
    go false again = (p, h)

all_all : (P : Cut → Type 0) (us ks : List Cut) → AllByRecursion P us → AllByRecursion P ks → AllByRecursion P (all_among us ks)
all_all P [] ks a h = h
all_all P (u ∷ us) ks a h = among_all P u (all_among us ks) a.0 (all_all P us ks a.1 h)

cuts_low : (fill : Fill) (low at : ℕ) (ps : List Piece) → low ≤ at → AllByRecursion (λ (u : Cut). low ≤ u.at) (cuts fill at ps)
cuts_low fill low at [] le = tt
cuts_low fill low at (copied c ∷ ps) le = cuts_low fill low (at + length (spell c)) ps (omega arith)
cuts_low fill low at (replaced lead slot now last ∷ ps) le = (omega arith, cuts_low fill low (at + length (spell_all lead ++ slot)) ps (omega arith))

-- each from a place on
pub from_all : (low : ℕ) (cs : List Cut) → AllByRecursion (λ (c : Cut). low ≤ c.at) cs → From low cs
from_all low [] h = tt
from_all low (c ∷ cs) h = h.0

-- ---- the rows of tables among both

up_to_both : (p low : ℕ) (rs more : List RowTable) → p < low → AllByRecursion (λ (r : RowTable). low ≤ r.at) more → rows_up_to p (rs ++ more) ≡ rows_up_to p rs
up_to_both p low [] [] lt h = refl
up_to_both p low [] (r ∷ more) lt h = ap (λ (t : Bool). cond t (r ∷ rows_up_to p more) []) (lt-leb r.at p (omega (arith, lt, h.0)))
up_to_both p low (r ∷ rs) more lt h = ap (λ (x : List RowTable). cond (nat_le r.at p) (r ∷ x) []) (up_to_both p low rs more lt h)

behind_both : (p low : ℕ) (rs more : List RowTable) → p < low → AllByRecursion (λ (r : RowTable). low ≤ r.at) more → rows_behind p (rs ++ more) ≡ rows_behind p rs ++ more
behind_both p low [] [] lt h = refl
behind_both p low [] (r ∷ more) lt h = ap (λ (t : Bool). cond t (rows_behind p more) (r ∷ more)) (lt-leb r.at p (omega (arith, lt, h.0)))
behind_both p low (r ∷ rs) more lt h = go (nat_le r.at p) (behind_both p low rs more lt h)
  where
    go : (t : Bool) → rows_behind p (rs ++ more) ≡ rows_behind p rs ++ more → cond t (rows_behind p (rs ++ more)) (r ∷ (rs ++ more)) ≡ cond t (rows_behind p rs) (r ∷ rs) ++ more
    go true again = again
    go false again = refl

behind_all : (P : RowTable → Type 0) (p : ℕ) (rs : List RowTable) → AllByRecursion P rs → AllByRecursion P (rows_behind p rs)
behind_all P p [] h = tt
behind_all P p (r ∷ rs) h = go (nat_le r.at p) (behind_all P p rs h.1)
  where
    go : (t : Bool) → AllByRecursion P (rows_behind p rs) → AllByRecursion P (cond t (rows_behind p rs) (r ∷ rs))
    go true again = again
    go false again = h

module _ (g : RowTable → Cut) where
  -- spans before others, of which the tables follow
  pub mixed_heads : (hs xs : List Cut) (rs : List RowTable) → AllByRecursion (λ (h : Cut). AllByRecursion (λ (r : RowTable). h.at < r.at) rs) hs → mixed g (hs ++ xs) rs ≡ hs ++ mixed g xs rs
  mixed_heads [] xs rs h = refl
  mixed_heads (k ∷ hs) xs rs h = mixed_first g k (hs ++ xs) rs h.0 ∙ ap (λ (ys : List Cut). k ∷ ys) (mixed_heads hs xs rs h.1)

  -- the spans and tables before a place, and those behind it
  mixed_both : (low : ℕ) (ks xs : List Cut) (rs more : List RowTable) → AllByRecursion (λ (k : Cut). k.at < low) ks → From low xs → AllByRecursion (λ (r : RowTable). r.at ≤ low) rs → AllByRecursion (λ (r : RowTable). low < r.at) more
      → mixed g (ks ++ xs) (rs ++ more) ≡ mixed g ks rs ++ mixed g xs more
  mixed_both low [] xs rs more k x r m = mixed_past g xs low rs more x r
  mixed_both low (k ∷ ks) xs rs more h x r m =
      let few = all_weaken (λ (r : RowTable). low < r.at) (λ (r : RowTable). low ≤ r.at) (λ r lt. omega (arith, lt)) more m in
      let front = map g (rows_up_to k.at rs) in
      ap (λ (y : List RowTable). map g y ++ k ∷ mixed g (ks ++ xs) (rows_behind k.at (rs ++ more))) (up_to_both k.at low rs more h.0 few)
      ∙ ap (λ (y : List RowTable). front ++ k ∷ mixed g (ks ++ xs) y) (behind_both k.at low rs more h.0 few)
      ∙ ap (λ (y : List Cut). front ++ k ∷ y) (mixed_both low ks xs (rows_behind k.at rs) more h.1 x (behind_all (λ (r : RowTable). r.at ≤ low) k.at rs r) m)
      ∙ sym (append_assoc front (k ∷ mixed g ks (rows_behind k.at rs)) (mixed g xs more))

  -- ---- pieces

  module _ (kid_heads : ℕ → Chunk → List Cut) where
    -- the headers in the atoms that are copied
    abbrev pub piece_heads : ℕ → List Piece → List Cut
    piece_heads at [] = []
    piece_heads at (copied c ∷ ps) = kid_heads at c ++ piece_heads (at + length (spell c)) ps
    piece_heads at (replaced lead slot now last ∷ ps) = piece_heads (at + length (spell_all lead ++ slot)) ps

    -- they begin in them
    abbrev pub HeadsPlaced : ℕ → List Piece → Type 0
    HeadsPlaced at [] = Unit {0}
    HeadsPlaced at (copied c ∷ ps) = AllByRecursion (λ (h : Cut). (at ≤ h.at) × (h.at < at + length (spell c))) (kid_heads at c) × HeadsPlaced (at + length (spell c)) ps
    HeadsPlaced at (replaced lead slot now last ∷ ps) = HeadsPlaced (at + length (spell_all lead ++ slot)) ps

    heads_low : (low at : ℕ) (ps : List Piece) → low ≤ at → HeadsPlaced at ps → AllByRecursion (λ (h : Cut). low ≤ h.at) (piece_heads at ps)
    heads_low low at [] le h = tt
    heads_low low at (copied c ∷ ps) le h =
        all_join (λ (h : Cut). low ≤ h.at) (kid_heads at c) (piece_heads (at + length (spell c)) ps)
        (all_weaken (λ (h : Cut). (at ≤ h.at) × (h.at < at + length (spell c))) (λ (h : Cut). low ≤ h.at) (λ k x. omega (arith, le, x.0)) (kid_heads at c) h.0)
        (heads_low low (at + length (spell c)) ps (omega (arith, le)) h.1)
    heads_low low at (replaced lead slot now last ∷ ps) le h = heads_low low (at + length (spell_all lead ++ slot)) ps (omega (arith, le)) h

    -- The slots of units among the headers and the rows of the atoms that are copied.
    pub blended : (fill : Fill) (at : ℕ) (ps : List Piece) → Placed at ps → HeadsPlaced at ps
        → mixed g (all_among (cuts fill at ps) (piece_heads at ps)) (piece_rows at ps) ≡ cuts_with (λ at c. mixed g (kid_heads at c) (kid_rows at c)) fill at ps
    blended fill at [] p h = refl
    blended fill at (copied c ∷ ps) p h =
        let next = at + length (spell c) in
        let us = cuts fill next ps in
        let hs = kid_heads at c in
        let rest = all_among us (piece_heads next ps) in
        let low = cuts_low fill next next ps (omega arith) in
        let below = all_weaken (λ (h : Cut). (at ≤ h.at) × (h.at < next)) (λ (h : Cut). h.at < next) (λ k x. x.1) hs h.0 in
        ap (λ (x : List Cut). mixed g x (piece_rows at (copied c ∷ ps))) (all_past next us hs (piece_heads next ps) low below)
        ∙ mixed_both next hs rest (kid_rows at c) (piece_rows next ps) below
        (from_all next rest (all_all (λ (x : Cut). next ≤ x.at) us (piece_heads next ps) low (heads_low next next ps (omega arith) h.1)))
        (all_weaken (Rattle.mov_plan.proofs.Mixed.Begins at next) (λ (r : RowTable). r.at ≤ next) (λ r x. x.1) (kid_rows at c) p.0)
        (rows_past g next ps p.1)
        ∙ ap (λ (x : List Cut). mixed g hs (kid_rows at c) ++ x) (blended fill next ps p.1 h.1)
    blended fill at (replaced lead slot now last ∷ ps) p h =
        let next = at + length (spell_all lead ++ slot) in
        let k = cut_of fill at lead slot now last in
        let us = cuts fill next ps in
        let hs = piece_heads next ps in
        let here : k.at ≤ next = omega (arith, length-append (spell_all lead) slot) in
        ap (λ (x : List Cut). mixed g x (piece_rows next ps)) (among_first k (all_among us hs) (all_all (λ (x : Cut). k.at ≤ x.at) us hs (cuts_low fill k.at next ps here) (heads_low k.at next ps here h)))
        ∙ mixed_first g k (all_among us hs) (piece_rows next ps) (all_weaken (λ (r : RowTable). next < r.at) (λ (r : RowTable). k.at < r.at) (λ r x. omega (arith, x, here)) (piece_rows next ps) (rows_past g next ps p))
        ∙ ap (λ (x : List Cut). k ∷ x) (blended fill next ps p h)
