-- Chunks that are looked for in ranges of which each is edited on its own.
use Rattle.std.proofs.Common.{◌≡◌, ℕ, ◌+◌, ◌≤◌, Bool, true, false, cond, List, [], ◌∷◌, ◌++◌, length, map, refl, sym, ap, subst, ◌∙◌, arith}
use Rattle.std.specs.Str.{bytes_eq}
use Rattle.std.specs.List.{flat_map, AllByRecursion}
use Rattle.std.proofs.lemmas.List.{length-append}
use Rattle.container_model.specs.Chunk.{Chunk, spell, spell_all}
use Rattle.container_model.specs.Splice.{Cut}
use Rattle.container_model.specs.Stood.{Stood, bare, stood, only}
use Rattle.container_model.proofs.Copied.{Pair, old_of, new_of, Unseen, Quiet, Later, Goes, All-steps, All-pairs, map_append, bare_short}
use Rattle.container_model.proofs.Goes.{Block, wider, block_copy, block_cut, goes_behind, goes_before, goes_copied, goes_wider, pieces_go}
use Rattle.container_model.specs.Units.{Cell, Fill, was, shut, units, lay, cuts}
use Rattle.container_model.proofs.Places.{old_length}
use Rattle.container_model.proofs.Stood.{only_all}
use Rattle.container_model.proofs.Items.{same_true}
use Rattle.avi_model.proofs.Among.{all_among, stood_inside}
use Rattle.carrier_model.specs.RiffForm.{pad_cut}

-- the same range, told otherwise
pub block_same : (at to end goal a t e g : ℕ) (cs : List Cut) → a ≡ at → t ≡ to → e ≡ end → g ≡ goal → Block at to end goal cs → Block a t e g cs
block_same at to end goal a t e g cs i j k l b = record { ascend = wider a at end e cs (omega (arith, i)) (omega (arith, k)) b.ascend; past = λ p le. omega (arith, i, j, k, l, b.past p (omega (arith, le, k))) }

-- a pad
pub block_pad : (at to : ℕ) (old new : List ℕ) → Block at to (at + length old) (to + length new) (pad_cut at old new)
block_pad at to old new = go (bytes_eq old new) refl
  where
    go : (t : Bool) → bytes_eq old new ≡ t → Block at to (at + length old) (to + length new) (cond t [] (record { at = at; len = length old; bytes = new } ∷ []))
    go true e = block_same at to (at + length old) (to + length old) at to (at + length old) (to + length new) [] refl refl refl (ap (λ (x : List ℕ). to + length x) (sym (same_true old new e))) (block_copy at to (length old))
    go false e = block_cut (record { at = at; len = length old; bytes = new }) to

-- Chunks that stood in a range, and where they stand then.
pub record Follows (cs : List Cut) (at to end : ℕ) (olds news : List Stood) : Type 0 where
  pub found : List Pair
  pub news_are : map new_of found ≡ news
  pub olds_are : map old_of found ≡ olds
  pub go : AllByRecursion (Goes cs at to) found
  pub fits : AllByRecursion (λ x. x.old + length (spell x.chunk) ≤ end) found

pub follow_none : (cs : List Cut) (at to end : ℕ) → Follows cs at to end [] []
follow_none cs at to end = record { found = []; news_are = refl; olds_are = refl; go = tt; fits = tt }

-- what is told of two lists
pub follow_same : (cs : List Cut) (at to end : ℕ) (olds news a b : List Stood) → a ≡ olds → b ≡ news → Follows cs at to end olds news → Follows cs at to end a b
follow_same cs at to end olds news a b e g f = record { found = f.found; news_are = f.news_are ∙ sym g; olds_are = f.olds_are ∙ sym e; go = f.go; fits = f.fits }

-- a wider range
pub follow_wider : (cs : List Cut) (at to n end far : ℕ) (olds news : List Stood) → end ≤ far → Follows cs (at + n) (to + n) end olds news → Follows cs at to far olds news
follow_wider cs at to n end far olds news le f =
    record {
      found = f.found;
      news_are = f.news_are;
      olds_are = f.olds_are;
      go = All-steps (Goes cs (at + n) (to + n)) (Goes cs at to) (λ x g. goes_wider cs at to n x g) f.found f.go;
      fits = All-steps (λ x. x.old + length (spell x.chunk) ≤ end) (λ x. x.old + length (spell x.chunk) ≤ far) (λ x g. omega (arith, g, le)) f.found f.fits;
    }

pub both_fit : (mid half end : ℕ) (xs : List Pair) → mid ≤ end → AllByRecursion (λ x. x.old + length (spell x.chunk) ≤ mid) xs → AllByRecursion (λ x. x.old + length (spell x.chunk) ≤ end) xs
both_fit mid half end xs le h = All-steps (λ x. x.old + length (spell x.chunk) ≤ mid) (λ x. x.old + length (spell x.chunk) ≤ end) (λ x g. omega (arith, g, le)) xs h

go_before : (cs more : List Cut) (at to mid half end goal : ℕ) → Block mid half end goal more → (xs : List Pair) → AllByRecursion (λ x. x.old + length (spell x.chunk) ≤ mid) xs → AllByRecursion (Goes cs at to) xs → AllByRecursion (Goes (cs ++ more) at to) xs
go_before cs more at to mid half end goal b [] fits h = tt
go_before cs more at to mid half end goal b (x ∷ xs) fits h = (goes_before at to mid end cs more b.ascend x fits.0 h.0, go_before cs more at to mid half end goal b xs fits.1 h.1)

-- ranges that follow each other
pub follow_both : (a b : List Cut) (at to mid half end goal : ℕ) (o1 n1 o2 n2 : List Stood) → mid ≤ end → Block at to mid half a → Block mid half end goal b → Follows a at to mid o1 n1 → Follows b mid half end o2 n2 → Follows (a ++ b) at to end (o1 ++ o2) (n1 ++ n2)
follow_both a b at to mid half end goal o1 n1 o2 n2 le h g f k =
    record {
      found = f.found ++ k.found;
      news_are = map_append new_of f.found k.found ∙ ap (λ (x : List Stood). x ++ map new_of k.found) f.news_are ∙ ap (λ (x : List Stood). n1 ++ x) k.news_are;
      olds_are = map_append old_of f.found k.found ∙ ap (λ (x : List Stood). x ++ map old_of k.found) f.olds_are ∙ ap (λ (x : List Stood). o1 ++ x) k.olds_are;
      go = All-pairs (Goes (a ++ b) at to) f.found k.found (go_before a b at to mid half end goal g f.found f.fits f.go) (All-steps (Goes b mid half) (Goes (a ++ b) at to) (λ x z. goes_behind at to mid half a b h x z) k.found k.go);
      fits = All-pairs (λ x. x.old + length (spell x.chunk) ≤ end) f.found k.found (both_fit mid half end f.found le f.fits) k.fits;
    }

-- spans behind a range
pub follow_before : (a b : List Cut) (at to mid half end goal : ℕ) (olds news : List Stood) → mid ≤ end → Block mid half end goal b → Follows a at to mid olds news → Follows (a ++ b) at to end olds news
follow_before a b at to mid half end goal olds news le g f =
    record { found = f.found; news_are = f.news_are; olds_are = f.olds_are; go = go_before a b at to mid half end goal g f.found f.fits f.go; fits = both_fit mid half end f.found le f.fits }

-- a range that ends further on
pub follow_further : (cs : List Cut) (at to end far : ℕ) (olds news : List Stood) → end ≤ far → Follows cs at to end olds news → Follows cs at to far olds news
follow_further cs at to end far olds news le f = record { found = f.found; news_are = f.news_are; olds_are = f.olds_are; go = f.go; fits = both_fit end 0 far f.found le f.fits }

-- spans before a range
pub follow_behind : (a b : List Cut) (at to mid half end : ℕ) (olds news : List Stood) → Block at to mid half a → Follows b mid half end olds news → Follows (a ++ b) at to end olds news
follow_behind a b at to mid half end olds news h f =
    record { found = f.found; news_are = f.news_are; olds_are = f.olds_are; go = All-steps (Goes b mid half) (Goes (a ++ b) at to) (λ x z. goes_behind at to mid half a b h x z) f.found f.go; fits = f.fits }

-- chunks of a range that is copied
pub follow_copied : (p : Chunk → Bool) (at to d : ℕ) (cs : List Chunk) → Follows [] at to (at + d + length (spell_all cs)) (only p (stood (at + d) cs)) (only p (stood (to + d) cs))
follow_copied p at to d [] = follow_none [] at to (at + d + 0)
follow_copied p at to d (c ∷ cs) =
    let k = length (spell c) in
    let i : at + d + k ≡ at + (d + k) = omega arith in
    let j : to + d + k ≡ to + (d + k) = omega arith in
    let long = length-append (spell c) (spell_all cs) in
    go (p (bare c)) (subst (λ (x : ℕ). Follows [] at to (at + (d + k) + length (spell_all cs)) (only p (stood x cs)) (only p (stood (to + d + k) cs))) (sym i) (subst (λ (x : ℕ). Follows [] at to (at + (d + k) + length (spell_all cs)) (only p (stood (at + (d + k)) cs)) (only p (stood x cs))) (sym j) (follow_copied p at to (d + k) cs))) (omega (arith, long))
  where
    go : (t : Bool) → Follows [] at to (at + (d + length (spell c)) + length (spell_all cs)) (only p (stood (at + d + length (spell c)) cs)) (only p (stood (to + d + length (spell c)) cs)) → at + (d + length (spell c)) + length (spell_all cs) ≡ at + d + length (spell_all (c ∷ cs))
        → Follows [] at to (at + d + length (spell_all (c ∷ cs))) (cond t (record { at = at + d; chunk = bare c } ∷ only p (stood (at + d + length (spell c)) cs)) (only p (stood (at + d + length (spell c)) cs)))
        (cond t (record { at = to + d; chunk = bare c } ∷ only p (stood (to + d + length (spell c)) cs)) (only p (stood (to + d + length (spell c)) cs)))
    go false f e = record { found = f.found; news_are = f.news_are; olds_are = f.olds_are; go = f.go; fits = both_fit _ 0 (at + d + length (spell_all (c ∷ cs))) f.found (omega (arith, e)) f.fits }
    go true f e = record {
      found = record { old = at + d; new = to + d; chunk = bare c } ∷ f.found;
      news_are = ap (λ (x : List Stood). record { at = to + d; chunk = bare c } ∷ x) f.news_are;
      olds_are = ap (λ (x : List Stood). record { at = at + d; chunk = bare c } ∷ x) f.olds_are;
      go = (goes_copied at to d (bare c), f.go);
      fits = (omega (arith, e, bare_short c), both_fit _ 0 (at + d + length (spell_all (c ∷ cs))) f.found (omega (arith, e)) f.fits);
    }

-- ---- an edited list

fits_from : (end : ℕ) (xs : List Pair) → AllByRecursion (λ y. y.at + length (spell y.chunk) ≤ end) (map old_of xs) → AllByRecursion (λ x. x.old + length (spell x.chunk) ≤ end) xs
fits_from end [] h = tt
fits_from end (x ∷ xs) h = (h.0, fits_from end xs h.1)

stood_fits : (at : ℕ) (cs : List Chunk) → AllByRecursion (λ y. y.at + length (spell y.chunk) ≤ at + length (spell_all cs)) (stood at cs)
stood_fits at cs = all_among (λ y. y.at + length (spell y.chunk) ≤ at + length (spell_all cs)) (stood at cs) (λ y i. (stood_inside at cs y i).1)

-- what is looked for in the pieces of an edited list, with further spans behind
pub follow_pieces : (p : Chunk → Bool) (fill : Fill) → ((last : Bool) (slot : List ℕ) (k : ℕ) → Unseen p (fill last slot k)) → (at to : ℕ) (xs : List Cell) → Quiet p xs → (more : List Cut) → Later (at + old_length (units shut xs)) more
    → Follows (cuts fill at (units shut xs) ++ more) at to (at + length (spell_all (flat_map was xs))) (only p (stood at (flat_map was xs))) (only p (stood to (lay fill (units shut xs))))
follow_pieces p fill fills at to xs q more later =
    let g = pieces_go p fill fills at to xs q more later in
    let inside = only_all (λ y. y.at + length (spell y.chunk) ≤ at + length (spell_all (flat_map was xs))) p (stood at (flat_map was xs)) (stood_fits at (flat_map was xs)) in
    record {
      found = g.0;
      news_are = g.1;
      olds_are = g.2;
      go = g.3;
      fits = fits_from (at + length (spell_all (flat_map was xs))) g.0 (subst (AllByRecursion (λ y. y.at + length (spell y.chunk) ≤ at + length (spell_all (flat_map was xs)))) (sym g.2) inside);
    }
