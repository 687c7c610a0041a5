-- Where chunks go in bytes of which several ranges are edited, each on its own: ranges that follow each other, and the chunks in
-- them.
use Rattle.std.proofs.Common.{◌≡◌, ℕ, ◌+◌, ◌<◌, ◌≤◌, Bool, false, leb, List, [], ◌∷◌, ◌++◌, length, map, refl, sym, ap, ◌∙◌, arith, inl, inr}
use Rattle.std.specs.Prelude.{◌⊎◌}
use Rattle.std.specs.List.{flat_map, AllByRecursion}
use Rattle.std.proofs.lemmas.Bool.{lt-leb, cases_lt}
use Rattle.container_model.specs.Chunk.{Chunk, spell, spell_all}
use Rattle.container_model.specs.Splice.{Cut, end_of, Ascend, gained, lost, Outside}
use Rattle.container_model.specs.Stood.{stood, only}
use Rattle.container_model.specs.Units.{Cell, Piece, Fill, was, shut, units, lay, cuts}
use Rattle.container_model.proofs.Copied.{Pair, old_of, new_of, only_pairs, pairs, Unseen, Quiet, Later, Goes, quiet_units, new_stood, old_stood, pairs_go, All-kept}
use Rattle.container_model.proofs.Places.{old_length, Before, cuts_ascend, past_moves}
use Rattle.container_model.proofs.Splice.{before_lost, lost_low}
use Rattle.container_model.proofs.Units.{BringsPad, units_bring}

-- ---- spans that ascend

ends_by : (at end : ℕ) (cs : List Cut) → Ascend at cs end → at ≤ end
ends_by at end [] h = h
ends_by at end (c ∷ cs) h = omega (arith, h.0, ends_by (end_of c) end cs h.1)

outside_past : (at end p : ℕ) (cs : List Cut) → Ascend at cs end → end ≤ p → Outside cs p
outside_past at end p [] h le = tt
outside_past at end p (c ∷ cs) h le = (inr (omega (arith, ends_by (end_of c) end cs h.1, le)), outside_past (end_of c) end p cs h.1 le)

pub before_later : (at end p : ℕ) (cs : List Cut) → Ascend at cs end → p < at → Before p cs
before_later at end p [] h lt = tt
before_later at end p (c ∷ cs) h lt = (omega (arith, h.0, lt), before_later (end_of c) end p cs h.1 (omega (arith, h.0, lt)))

pub wider : (from at end to : ℕ) (cs : List Cut) → from ≤ at → end ≤ to → Ascend at cs end → Ascend from cs to
wider from at end to [] a b h = omega (arith, a, b, h)
wider from at end to (c ∷ cs) a b h = (omega (arith, a, h.0), wider (end_of c) (end_of c) end to cs (omega arith) b h.1)

pub ascend_both : (at mid end : ℕ) (a b : List Cut) → Ascend at a mid → Ascend mid b end → Ascend at (a ++ b) end
ascend_both at mid end [] b h g = wider at mid end end b h (omega arith) g
ascend_both at mid end (c ∷ a) b h g = (h.0, ascend_both (end_of c) mid end a b h.1 g)

outside_both : (p : ℕ) (a b : List Cut) → Outside a p → Outside b p → Outside (a ++ b) p
outside_both p [] b h g = g
outside_both p (c ∷ a) b h g = (h.0, outside_both p a b h.1 g)

-- spans that end by a place
past_both : (at mid p : ℕ) (a b : List Cut) → Ascend at a mid → mid ≤ p → (gained (a ++ b) p ≡ gained a p + gained b p) × (lost (a ++ b) p ≡ lost a p + lost b p)
past_both at mid p [] b h le = (omega arith, omega arith)
past_both at mid p (c ∷ a) b h le =
    let behind : end_of c ≤ p = omega (arith, ends_by (end_of c) mid a h.1, le) in
    let x = before_lost c (a ++ b) p behind in
    let y = before_lost c a p behind in
    let again = past_both (end_of c) mid p a b h.1 le in
    (omega (arith, x.0, y.0, again.0), omega (arith, x.1, y.1, again.1))

open_cut : (c : Cut) (cs : List Cut) (p : ℕ) → p < end_of c → (gained (c ∷ cs) p ≡ 0) × (lost (c ∷ cs) p ≡ 0)
open_cut c cs p lt = let no : leb (end_of c) p ≡ false = lt-leb (end_of c) p lt in (rw (no, gained) refl, rw (no, lost) refl)

none_yet : (p : ℕ) (cs : List Cut) → Before p cs → (gained cs p ≡ 0) × (lost cs p ≡ 0)
none_yet p [] h = (refl, refl)
none_yet p (c ∷ cs) h = open_cut c cs p (omega (arith, h.0))

-- spans behind a place
none_behind : (p : ℕ) (a b : List Cut) → Before p b → (gained (a ++ b) p ≡ gained a p) × (lost (a ++ b) p ≡ lost a p)
none_behind p [] b h = none_yet p b h
none_behind p (c ∷ a) b h = go (cases_lt p (end_of c)) (none_behind p a b h)
  where
    go : (p < end_of c) ⊎ (end_of c ≤ p) → (gained (a ++ b) p ≡ gained a p) × (lost (a ++ b) p ≡ lost a p) → (gained (c ∷ (a ++ b)) p ≡ gained (c ∷ a) p) × (lost (c ∷ (a ++ b)) p ≡ lost (c ∷ a) p)
    go (inl lt) again = let x = open_cut c (a ++ b) p lt in let y = open_cut c a p lt in (x.0 ∙ sym y.0, x.1 ∙ sym y.1)
    go (inr le) again = let x = before_lost c (a ++ b) p le in let y = before_lost c a p le in (omega (arith, x.0, y.0, again.0), omega (arith, x.1, y.1, again.1))

before_outside : (p : ℕ) (cs : List Cut) → Before p cs → Outside cs p
before_outside p [] h = tt
before_outside p (c ∷ cs) h = (inl h.0, before_outside p cs h.1)

-- ---- ranges

-- Spans of the range from a place to another one; what stands there stands then from a third place to a fourth.
pub record Block (at to end goal : ℕ) (cs : List Cut) : Type 0 where
  pub ascend : Ascend at cs end
  pub past : (p : ℕ) → end ≤ p → gained cs p + end + to ≡ lost cs p + goal + at

-- a range that is copied
pub block_copy : (at to n : ℕ) → Block at to (at + n) (to + n) []
block_copy at to n = record { ascend = omega arith; past = λ p le. omega arith }

-- ranges that follow each other
pub block_both : (at to mid half end goal : ℕ) (a b : List Cut) → Block at to mid half a → Block mid half end goal b → Block at to end goal (a ++ b)
block_both at to mid half end goal a b h g =
    record {
      ascend = ascend_both at mid end a b h.ascend g.ascend;
      past = λ p le.
          let low : mid ≤ p = omega (arith, ends_by mid end b g.ascend, le) in
          let both = past_both at mid p a b h.ascend low in
          omega (arith, both.0, both.1, h.past p low, g.past p le);
    }

-- the pieces of an edited list
pub block_pieces : (fill : Fill) (at to : ℕ) (ps : List Piece) → BringsPad ps → Block at to (at + old_length ps) (to + length (spell_all (lay fill ps))) (cuts fill at ps)
block_pieces fill at to ps brings =
    record {
      ascend = cuts_ascend fill at ps at (omega arith);
      past = λ p le.
          let m = past_moves fill at ps p brings le in
          let low = lost_low at (at + old_length ps) (cuts fill at ps) p (cuts_ascend fill at ps at (omega arith)) m.0 (omega (arith, le)) in
          omega (arith, m.1, low);
    }

-- one span
pub block_cut : (c : Cut) (to : ℕ) → Block c.at to (end_of c) (to + length c.bytes) (c ∷ [])
block_cut c to = record { ascend = (omega arith, omega arith); past = λ p le. let z = before_lost c [] p le in omega (arith, z.0, z.1) }

-- ---- chunks in them

-- a chunk of the range behind
pub goes_behind : (at to mid half : ℕ) (a b : List Cut) → Block at to mid half a → (x : Pair) → Goes b mid half x → Goes (a ++ b) at to x
goes_behind at to mid half a b h x g = (
  omega (arith, ends_by at mid a h.ascend, g.0),
  λ i lt.
      let low : mid ≤ x.old + i = omega (arith, g.0) in
      let one = g.1 i lt in
      let both = past_both at mid (x.old + i) a b h.ascend low in
      (outside_both (x.old + i) a b (outside_past at mid (x.old + i) a h.ascend low) one.0, omega (arith, both.0, both.1, one.1, h.past (x.old + i) low)),
)

-- a chunk of the range before
pub goes_before : (at to mid end : ℕ) (a b : List Cut) → Ascend mid b end → (x : Pair) → x.old + length (spell x.chunk) ≤ mid → Goes a at to x → Goes (a ++ b) at to x
goes_before at to mid end a b h x fits g = (
  g.0,
  λ i lt.
      let one = g.1 i lt in
      let later = before_later mid end (x.old + i) b h (omega (arith, lt, fits)) in
      let none = none_behind (x.old + i) a b later in
      (outside_both (x.old + i) a b one.0 (before_outside (x.old + i) b later), omega (arith, none.0, none.1, one.1)),
)

-- it goes the same way in a wider range
pub goes_wider : (cs : List Cut) (at to n : ℕ) (x : Pair) → Goes cs (at + n) (to + n) x → Goes cs at to x
goes_wider cs at to n x g = (omega (arith, g.0), λ i lt. ((g.1 i lt).0, omega (arith, (g.1 i lt).1)))

-- a chunk of a range that is copied
pub goes_copied : (at to d : ℕ) (c : Chunk) → Goes [] at to (record { old = at + d; new = to + d; chunk = c })
goes_copied at to d c = (omega arith, λ i lt. (tt, omega arith))

-- What is looked for in an edited list goes where the spans of the list put it.
pub pieces_go : (p : Chunk → Bool) (fill : Fill) → ((last : Bool) (slot : List ℕ) (k : ℕ) → Unseen p (fill last slot k)) → (at to : ℕ) (xs : List Cell) → Quiet p xs → (more : List Cut) → Later (at + old_length (units shut xs)) more
    → (found : List Pair) × (map new_of found ≡ only p (stood to (lay fill (units shut xs)))) × (map old_of found ≡ only p (stood at (flat_map was xs))) × AllByRecursion (Goes (cuts fill at (units shut xs) ++ more) at to) found
pieces_go p fill fills at to xs q more later =
    let ps = units shut xs in
    let z : at + 0 ≡ at = omega arith in (
      only_pairs p (pairs fill at to ps),
      new_stood p fill fills at to ps (units_bring shut xs tt) (quiet_units p fill fills shut xs tt q),
      old_stood p fill fills shut xs to tt q at ∙ ap (λ (k : ℕ). only p (stood k (flat_map was xs))) z,
      All-kept (Goes (cuts fill at ps ++ more) at to) p (pairs fill at to ps) (pairs_go fill at to ps more later),
    )
