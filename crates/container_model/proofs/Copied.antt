-- The chunks that are copied: where each stood, where it stands, and that its places move as one.
use Rattle.std.proofs.Common.{◌≡◌, ℕ, ◌+◌, ◌<◌, ◌≤◌, Bool, true, false, cond, List, [], ◌∷◌, ◌++◌, length, map, refl, sym, ap, ◌∙◌, arith, inl, inr}
use Rattle.std.specs.Prelude.{◌&&◌, not}
use Rattle.std.specs.List.{flat_map, AllByRecursion}
use Rattle.std.proofs.lemmas.Bool.{cond-false}
use Rattle.std.proofs.lemmas.List.{length-append, append-nil}
use Rattle.container_model.specs.Chunk.{Chunk, header_bytes, spell, spell_all}
use Rattle.container_model.specs.Stood.{Stood, bare, stood, only}
use Rattle.container_model.specs.Splice.{Cut, end_of, gained, lost, shift, Outside}
use Rattle.container_model.specs.Units.{Cell, kept, gap, edited, was, padded, lacks_pad, Piece, copied, replaced, Slot, shut, begun, is_empty, closed, kept_next, units, lead_pad, unit_bytes, Fill, lay, cut_of, cuts}
use Rattle.container_model.proofs.Units.{spell_all-append, begun_bytes, BringsPad, units_bring}
use Rattle.container_model.proofs.Codec.{as_many}
use Rattle.container_model.proofs.Stay.{Rigid}
use Rattle.container_model.proofs.Splice.{before_lost, behind_lost}
use Rattle.container_model.proofs.Places.{Before, before_all, old_length}

pub record Pair : Type 0 where
  pub old : ℕ
  pub new : ℕ
  pub chunk : Chunk

abbrev pub old_of : Pair → Stood
old_of x = record { at = x.old; chunk = x.chunk }

abbrev pub new_of : Pair → Stood
new_of x = record { at = x.new; chunk = x.chunk }

abbrev pub only_pairs : (Chunk → Bool) → List Pair → List Pair
only_pairs p [] = []
only_pairs p (x ∷ xs) = cond (p x.chunk) (x ∷ only_pairs p xs) (only_pairs p xs)

abbrev lead_pairs : ℕ → ℕ → List Chunk → List Pair
lead_pairs at to [] = []
lead_pairs at to (c ∷ cs) = record { old = at; new = to; chunk = bare c } ∷ []

abbrev pub pairs : Fill → ℕ → ℕ → List Piece → List Pair
pairs fill at to [] = []
pairs fill at to (copied c ∷ ps) = record { old = at; new = to; chunk = bare c } ∷ pairs fill (at + length (spell c)) (to + length (spell c)) ps
pairs fill at to (replaced lead slot now last ∷ ps) = lead_pairs at to lead ++ pairs fill (at + length (spell_all lead ++ slot)) (to + (length (spell_all lead) + length (cut_of fill at lead slot now last).bytes)) ps

-- ---- lists of chunks that stand somewhere

pub stood-append : (at : ℕ) (a b : List Chunk) → stood at (a ++ b) ≡ stood at a ++ stood (at + length (spell_all a)) b
stood-append at [] b = let e : at + 0 ≡ at = omega arith in rw e refl
stood-append at (c ∷ a) b =
    let e : (at + length (spell c)) + length (spell_all a) ≡ at + length (spell c ++ spell_all a) = omega (arith, length-append (spell c) (spell_all a)) in
    ap (λ (k : List Stood). record { at = at; chunk = bare c } ∷ k) (stood-append (at + length (spell c)) a b ∙ ap (λ (k : ℕ). stood (at + length (spell c)) a ++ stood k b) e)

pub only-append : (p : Chunk → Bool) (a b : List Stood) → only p (a ++ b) ≡ only p a ++ only p b
only-append p [] b = refl
only-append p (x ∷ a) b = go (p x.chunk) (only-append p a b)
  where
    go : (t : Bool) → only p (a ++ b) ≡ only p a ++ only p b → cond t (x ∷ only p (a ++ b)) (only p (a ++ b)) ≡ cond t (x ∷ only p a) (only p a) ++ only p b
    go true h = ap (λ (k : List Stood). x ∷ k) h
    go false h = h

pairs_append : (p : Chunk → Bool) (a b : List Pair) → only_pairs p (a ++ b) ≡ only_pairs p a ++ only_pairs p b
pairs_append p [] b = refl
pairs_append p (x ∷ a) b = go (p x.chunk) (pairs_append p a b)
  where
    go : (t : Bool) → only_pairs p (a ++ b) ≡ only_pairs p a ++ only_pairs p b → cond t (x ∷ only_pairs p (a ++ b)) (only_pairs p (a ++ b)) ≡ cond t (x ∷ only_pairs p a) (only_pairs p a) ++ only_pairs p b
    go true h = ap (λ (k : List Pair). x ∷ k) h
    go false h = h

pub map_append : {X Y : Type 0} (g : X → Y) (a b : List X) → map g (a ++ b) ≡ map g a ++ map g b
map_append g [] b = refl
map_append g (x ∷ a) b = ap (λ (k : List _). g x ∷ k) (map_append g a b)

-- no chunk of a list is looked for
abbrev pub Unseen : (Chunk → Bool) → List Chunk → Type 0
Unseen p cs = AllByRecursion (λ c. p (bare c) ≡ false) cs

pub only_unseen : (p : Chunk → Bool) (at : ℕ) (cs : List Chunk) → Unseen p cs → only p (stood at cs) ≡ []
only_unseen p at [] h = refl
only_unseen p at (c ∷ cs) h = cond-false (p (bare c)) _ _ h.0 ∙ only_unseen p (at + length (spell c)) cs h.1

unseen_both : (p : Chunk → Bool) (a b : List Chunk) → Unseen p a → Unseen p b → Unseen p (a ++ b)
unseen_both p [] b h g = g
unseen_both p (c ∷ a) b h g = (h.0, unseen_both p a b h.1 g)

abbrev Single : List Chunk → Type 0
Single [] = Unit {0}
Single (c ∷ cs) = cs ≡ []

-- ---- where the copied chunks stand in the new list

abbrev pub Quiet : (Chunk → Bool) → List Cell → Type 0
Quiet p [] = Unit {0}
Quiet p (kept c ∷ xs) = Quiet p xs
Quiet p (gap c ∷ xs) = (p (bare c) ≡ false) × Quiet p xs
Quiet p (edited old now ∷ xs) = Unseen p old × Unseen p now × Quiet p xs

abbrev QuietSlot : (Chunk → Bool) → Slot → Type 0
QuietSlot p shut = Unit {0}
QuietSlot p (begun lead slot now) = Single lead × Unseen p now

abbrev QuietPieces : (Chunk → Bool) → Fill → List Piece → Type 0
QuietPieces p fill [] = Unit {0}
QuietPieces p fill (copied c ∷ ps) = QuietPieces p fill ps
QuietPieces p fill (replaced lead slot now last ∷ ps) = Single lead × Unseen p now × Unseen p (fill last slot (length (unit_bytes lead now))) × QuietPieces p fill ps

module _ (p : Chunk → Bool) (fill : Fill) (fills : (last : Bool) (slot : List ℕ) (k : ℕ) → Unseen p (fill last slot k)) where
  quiet_both : (a b : List Piece) → QuietPieces p fill a → QuietPieces p fill b → QuietPieces p fill (a ++ b)
  quiet_both [] b h g = g
  quiet_both (copied c ∷ a) b h g = quiet_both a b h g
  quiet_both (replaced lead slot now last ∷ a) b h g = (h.0, h.1, h.2, quiet_both a b h.3 g)

  quiet_closed : (last : Bool) (s : Slot) → QuietSlot p s → QuietPieces p fill (closed last s)
  quiet_closed last shut h = tt
  quiet_closed last (begun lead slot now) h = (h.0, h.1, fills last slot (length (unit_bytes lead now)), tt)

  quiet_kept : (r : Bool) (c : Chunk) (more : Slot → List Piece) → ((s : Slot) → QuietSlot p s → QuietPieces p fill (more s)) → QuietPieces p fill (kept_next r c more)
  quiet_kept true c more h = h (begun (c ∷ []) [] []) (refl, tt)
  quiet_kept false c more h = h shut tt

  pub quiet_units : (s : Slot) (xs : List Cell) → QuietSlot p s → Quiet p xs → QuietPieces p fill (units s xs)
  unfolding units
  quiet_units s [] h g = quiet_closed true s h
  quiet_units s (kept c ∷ xs) h g = quiet_both (closed false s) _ (quiet_closed false s h) (quiet_kept (lacks_pad c && not (is_empty xs)) c (λ t. units t xs) (λ t k. quiet_units t xs k g))
  quiet_units shut (gap c ∷ xs) h g = quiet_kept (lacks_pad c && not (is_empty xs)) c (λ t. units t xs) (λ t k. quiet_units t xs k g.1)
  quiet_units (begun lead slot now) (gap c ∷ xs) h g = quiet_units (begun lead (slot ++ spell c) now) xs h g.1
  quiet_units shut (edited old new ∷ xs) h g = quiet_units (begun [] (spell_all old) new) xs (tt, g.1) g.2
  quiet_units (begun lead slot now) (edited old new ∷ xs) h g = quiet_units (begun lead (slot ++ spell_all old) (now ++ new)) xs (h.0, unseen_both p now new h.1 g.1) g.2

  -- what is looked for in the new list
  pub new_stood : (at to : ℕ) (ps : List Piece) → BringsPad ps → QuietPieces p fill ps → map new_of (only_pairs p (pairs fill at to ps)) ≡ only p (stood to (lay fill ps))
  new_stood at to [] b h = refl
  new_stood at to (copied c ∷ ps) b h = go (p (bare c)) (new_stood (at + length (spell c)) (to + length (spell c)) ps b h)
    where
      go : (t : Bool) → map new_of (only_pairs p (pairs fill (at + length (spell c)) (to + length (spell c)) ps)) ≡ only p (stood (to + length (spell c)) (lay fill ps))
          → map new_of (cond t (record { old = at; new = to; chunk = bare c } ∷ only_pairs p (pairs fill (at + length (spell c)) (to + length (spell c)) ps)) (only_pairs p (pairs fill (at + length (spell c)) (to + length (spell c)) ps)))
          ≡ cond t (record { at = to; chunk = bare c } ∷ only p (stood (to + length (spell c)) (lay fill ps))) (only p (stood (to + length (spell c)) (lay fill ps)))
      go true e = ap (λ (k : List Stood). record { at = to; chunk = bare c } ∷ k) e
      go false e = e
  new_stood at to (replaced lead slot now last ∷ ps) b h =
      let f = fill last slot (length (unit_bytes lead now)) in
      let next = to + (length (spell_all lead) + length (cut_of fill at lead slot now last).bytes) in
      let again = new_stood (at + length (spell_all lead ++ slot)) next ps b.1 h.3 in
      let behind : length (spell_all (map padded lead ++ (now ++ f))) ≡ length (spell_all lead) + length (cut_of fill at lead slot now last).bytes
      = rw (spell_all-append (map padded lead) (now ++ f), spell_all-append now f, b.0)
      (omega (arith, length-append (spell_all lead ++ lead_pad lead) (spell_all now ++ spell_all f), length-append (spell_all lead) (lead_pad lead), length-append (spell_all now) (spell_all f), length-append (unit_bytes lead now) (spell_all f), length-append (lead_pad lead) (spell_all now))) in
      let middle : only p (stood (to + length (spell_all (map padded lead))) (now ++ f)) ≡ [] = only_unseen p (to + length (spell_all (map padded lead))) (now ++ f) (unseen_both p now f h.1 h.2) in
      let front : only p (stood to (map padded lead ++ (now ++ f))) ≡ only p (stood to (map padded lead))
      = ap (only p) (stood-append to (map padded lead) (now ++ f)) ∙ only-append p (stood to (map padded lead)) (stood (to + length (spell_all (map padded lead))) (now ++ f)) ∙ ap (λ (k : List Stood). only p (stood to (map padded lead)) ++ k) middle ∙ append-nil (only p (stood to (map padded lead))) in
      let split : only p (stood to ((map padded lead ++ (now ++ f)) ++ lay fill ps)) ≡ only p (stood to (map padded lead)) ++ only p (stood next (lay fill ps))
      = ap (only p) (stood-append to (map padded lead ++ (now ++ f)) (lay fill ps)) ∙ only-append p (stood to (map padded lead ++ (now ++ f))) (stood (to + length (spell_all (map padded lead ++ (now ++ f)))) (lay fill ps))
      ∙ ap (λ (k : List Stood). k ++ only p (stood (to + length (spell_all (map padded lead ++ (now ++ f)))) (lay fill ps))) front ∙ ap (λ (k : ℕ). only p (stood to (map padded lead)) ++ only p (stood (to + k) (lay fill ps))) behind in
      ap (map new_of) (pairs_append p (lead_pairs at to lead) (pairs fill (at + length (spell_all lead ++ slot)) next ps)) ∙ map_append new_of (only_pairs p (lead_pairs at to lead)) (only_pairs p (pairs fill (at + length (spell_all lead ++ slot)) next ps))
      ∙ rw again (ap (λ (k : List Stood). k ++ only p (stood next (lay fill ps))) (one lead h.0)) ∙ sym split
    where
      one : (lead : List Chunk) → Single lead → map new_of (only_pairs p (lead_pairs at to lead)) ≡ only p (stood to (map padded lead))
      one [] h = refl
      one (c ∷ cs) h = rw h (go (p (bare c)))
        where
          go : (t : Bool) → map new_of (cond t (record { old = at; new = to; chunk = bare c } ∷ []) []) ≡ cond t (record { at = to; chunk = bare c } ∷ []) []
          go true = refl
          go false = refl

  -- what was looked for in the old list
  abbrev lead_of : Slot → List Chunk
  lead_of shut = []
  lead_of (begun lead slot now) = lead

  old_lead : (at to : ℕ) (lead : List Chunk) → Single lead → map old_of (only_pairs p (lead_pairs at to lead)) ≡ only p (stood at lead)
  old_lead at to [] h = refl
  old_lead at to (c ∷ cs) h = rw h (go (p (bare c)))
    where
      go : (t : Bool) → map old_of (cond t (record { old = at; new = to; chunk = bare c } ∷ []) []) ≡ cond t (record { at = at; chunk = bare c } ∷ []) []
      go true = refl
      go false = refl

  abbrev olds : ℕ → ℕ → List Piece → List Stood
  olds at to ps = map old_of (only_pairs p (pairs fill at to ps))

  old_unit : (at to : ℕ) (lead : List Chunk) (slot : List ℕ) (now : List Chunk) (last : Bool) (ps : List Piece) (k : List Stood) → Single lead
      → ((to : ℕ) → olds (at + length (spell_all lead ++ slot)) to ps ≡ k) → olds at to (replaced lead slot now last ∷ ps) ≡ only p (stood at lead) ++ k
  old_unit at to lead slot now last ps k h g =
      let next = to + (length (spell_all lead) + length (cut_of fill at lead slot now last).bytes) in
      ap (map old_of) (pairs_append p (lead_pairs at to lead) (pairs fill (at + length (spell_all lead ++ slot)) next ps)) ∙ map_append old_of (only_pairs p (lead_pairs at to lead)) (only_pairs p (pairs fill (at + length (spell_all lead ++ slot)) next ps))
      ∙ rw (g next, old_lead at to lead h) refl

  -- a chunk that is copied
  old_kept : (at to : ℕ) (r : Bool) (c : Chunk) (more : Slot → List Piece) (cs : List Chunk)
      → ((t : Slot) (to : ℕ) → QuietSlot p t → (at : ℕ) → olds at to (more t) ≡ only p (stood at (lead_of t)) ++ only p (stood (at + length (begun_bytes t)) cs))
      → olds at to (kept_next r c more) ≡ only p (stood at (c ∷ cs))
  old_kept at to true c more cs h =
      let e : at + length ((spell c ++ []) ++ []) ≡ at + length (spell c) = omega (arith, length-append (spell c ++ []) [], length-append (spell c) []) in
      h (begun (c ∷ []) [] []) to (refl, tt) at ∙ ap (λ (k : ℕ). only p (stood at (c ∷ [])) ++ only p (stood k cs)) e ∙ go (p (bare c))
    where
      go : (t : Bool) → cond t (record { at = at; chunk = bare c } ∷ []) [] ++ only p (stood (at + length (spell c)) cs) ≡ cond t (record { at = at; chunk = bare c } ∷ only p (stood (at + length (spell c)) cs)) (only p (stood (at + length (spell c)) cs))
      go true = refl
      go false = refl
  old_kept at to false c more cs h =
      let z : (at + length (spell c)) + 0 ≡ at + length (spell c) = omega arith in
      go (p (bare c)) (h shut (to + length (spell c)) tt (at + length (spell c)) ∙ ap (λ (k : ℕ). only p (stood k cs)) z)
    where
      go : (t : Bool) → olds (at + length (spell c)) (to + length (spell c)) (more shut) ≡ only p (stood (at + length (spell c)) cs)
          → map old_of (cond t (record { old = at; new = to; chunk = bare c } ∷ only_pairs p (pairs fill (at + length (spell c)) (to + length (spell c)) (more shut))) (only_pairs p (pairs fill (at + length (spell c)) (to + length (spell c)) (more shut))))
          ≡ cond t (record { at = at; chunk = bare c } ∷ only p (stood (at + length (spell c)) cs)) (only p (stood (at + length (spell c)) cs))
      go true e = ap (λ (k : List Stood). record { at = at; chunk = bare c } ∷ k) e
      go false e = e

  -- chunks that aren't looked for are passed
  passed : (at : ℕ) (a b : List Chunk) → Unseen p a → only p (stood at (a ++ b)) ≡ only p (stood (at + length (spell_all a)) b)
  passed at a b h = ap (only p) (stood-append at a b) ∙ only-append p (stood at a) (stood (at + length (spell_all a)) b) ∙ ap (λ (k : List Stood). k ++ only p (stood (at + length (spell_all a)) b)) (only_unseen p at a h)

  pub old_stood : (s : Slot) (xs : List Cell) (to : ℕ) → QuietSlot p s → Quiet p xs → (at : ℕ) → olds at to (units s xs) ≡ only p (stood at (lead_of s)) ++ only p (stood (at + length (begun_bytes s)) (flat_map was xs))
  unfolding units
  old_stood shut [] to h g at = refl
  old_stood (begun lead slot now) [] to h g at = old_unit at to lead slot now true [] [] h.0 (λ t. refl)
  old_stood shut (kept c ∷ xs) to h g at =
      let z : at + 0 ≡ at = omega arith in
      old_kept at to (lacks_pad c && not (is_empty xs)) c (λ t. units t xs) (flat_map was xs) (λ t u k a. old_stood t xs u k g a) ∙ ap (λ (k : ℕ). only p (stood k (c ∷ flat_map was xs))) (sym z)
  old_stood (begun lead slot now) (kept c ∷ xs) to h g at =
      old_unit at to lead slot now false (kept_next (lacks_pad c && not (is_empty xs)) c (λ t. units t xs)) (only p (stood (at + length (spell_all lead ++ slot)) (c ∷ flat_map was xs))) h.0
      (λ u. old_kept (at + length (spell_all lead ++ slot)) u (lacks_pad c && not (is_empty xs)) c (λ t. units t xs) (flat_map was xs) (λ t u k a. old_stood t xs u k g a))
  old_stood shut (gap c ∷ xs) to h g at =
      let z : at + 0 ≡ at = omega arith in
      old_kept at to (lacks_pad c && not (is_empty xs)) c (λ t. units t xs) (flat_map was xs) (λ t u k a. old_stood t xs u k g.1 a) ∙ ap (λ (k : ℕ). only p (stood k (c ∷ flat_map was xs))) (sym z)
  old_stood (begun lead slot now) (gap c ∷ xs) to h g at =
      let q = at + length (spell_all lead ++ slot) in
      let e : at + length (spell_all lead ++ (slot ++ spell c)) ≡ q + length (spell c ++ []) = omega (arith, length-append (spell_all lead) (slot ++ spell c), length-append slot (spell c), length-append (spell_all lead) slot, length-append (spell c) []) in
      old_stood (begun lead (slot ++ spell c) now) xs to h g.1 at ∙ ap (λ (k : ℕ). only p (stood at lead) ++ only p (stood k (flat_map was xs))) e ∙ ap (λ (k : List Stood). only p (stood at lead) ++ k) (sym (passed q (c ∷ []) (flat_map was xs) (g.0, tt)))
  old_stood shut (edited old new ∷ xs) to h g at =
      let z : at + 0 ≡ at = omega arith in
      old_stood (begun [] (spell_all old) new) xs to (tt, g.1) g.2 at ∙ sym (passed at old (flat_map was xs) g.0) ∙ ap (λ (k : ℕ). only p (stood k (old ++ flat_map was xs))) (sym z)
  old_stood (begun lead slot now) (edited old new ∷ xs) to h g at =
      let q = at + length (spell_all lead ++ slot) in
      let e : at + length (spell_all lead ++ (slot ++ spell_all old)) ≡ q + length (spell_all old) = omega (arith, length-append (spell_all lead) (slot ++ spell_all old), length-append slot (spell_all old), length-append (spell_all lead) slot) in
      old_stood (begun lead (slot ++ spell_all old) (now ++ new)) xs to (h.0, unseen_both p now new h.1 g.1) g.2 at ∙ ap (λ (k : ℕ). only p (stood at lead) ++ only p (stood k (flat_map was xs))) e ∙ ap (λ (k : List Stood). only p (stood at lead) ++ k) (sym (passed q old (flat_map was xs) g.0))

-- ---- the places of a copied chunk move as one

pub before_none : (cs : List Cut) (q : ℕ) → Before q cs → Outside cs q × (gained cs q ≡ 0) × (lost cs q ≡ 0)
before_none [] q h = (tt, refl, refl)
before_none (c ∷ cs) q h = let z = behind_lost c cs q h.0 in ((inl h.0, (before_none cs q h.1).0), z.0, z.1)

pub before_both : (q : ℕ) (a b : List Cut) → Before q a → Before q b → Before q (a ++ b)
before_both q [] b h g = g
before_both q (c ∷ a) b h g = (h.0, before_both q a b h.1 g)

abbrev pub Goes : List Cut → ℕ → ℕ → Pair → Type 0
Goes cs at to x = (at ≤ x.old) × ((i : ℕ) → i < length (spell x.chunk) → Outside cs (x.old + i) × ((x.old + i) + gained cs (x.old + i) + to ≡ x.new + i + at + lost cs (x.old + i)))

pub bare_short : (c : Chunk) → length (spell (bare c)) ≤ length (spell c)
bare_short c =
    let head = header_bytes c.form c.id (length c.body) in
    omega (arith, length-append head (c.body ++ []), length-append c.body [], length-append head (c.body ++ c.pad), length-append c.body c.pad)

-- further spans behind
abbrev pub Later : ℕ → List Cut → Type 0
Later e more = (q : ℕ) → q < e → Before q more

lead_short : (c : Chunk) (cs : List Chunk) → length (spell c) ≤ length (spell_all (c ∷ cs))
lead_short c cs = omega (arith, length-append (spell c) (spell_all cs))

pub All-steps : (P Q : Pair → Type 0) → ((x : Pair) → P x → Q x) → (xs : List Pair) → AllByRecursion P xs → AllByRecursion Q xs
All-steps P Q f [] h = tt
All-steps P Q f (x ∷ xs) h = (f x h.0, All-steps P Q f xs h.1)

pub All-pairs : (P : Pair → Type 0) (a b : List Pair) → AllByRecursion P a → AllByRecursion P b → AllByRecursion P (a ++ b)
All-pairs P [] b h g = g
All-pairs P (x ∷ a) b h g = (h.0, All-pairs P a b h.1 g)

pub pairs_go : (fill : Fill) (at to : ℕ) (ps : List Piece) (more : List Cut) → Later (at + old_length ps) more → AllByRecursion (Goes (cuts fill at ps ++ more) at to) (pairs fill at to ps)
pairs_go fill at to [] more h = tt
pairs_go fill at to (copied c ∷ ps) more h =
    let k = length (spell c) in
    let e : (at + k) + old_length ps ≡ at + old_length (copied c ∷ ps) = omega (arith, length-append (spell c) (flat_map Rattle.container_model.specs.Units.old_bytes ps)) in
    let again = pairs_go fill (at + k) (to + k) ps more (rw e h) in
    let cs = cuts fill (at + k) ps ++ more in (
      (
        omega arith,
        λ i lt.
            let z = before_none cs (at + i) (before_both (at + i) (cuts fill (at + k) ps) more (before_all fill (at + k) ps (at + i) (omega (arith, bare_short c, lt))) (h (at + i) (omega (arith, bare_short c, lt, e)))) in
            (z.0, omega (arith, z.1, z.2)),
      ),
      All-steps (Goes cs (at + k) (to + k)) (Goes cs at to) (λ x g. (omega (arith, g.0), λ i lt. ((g.1 i lt).0, omega (arith, (g.1 i lt).1)))) (pairs fill (at + k) (to + k) ps) again,
    )
pairs_go fill at to (replaced lead slot now last ∷ ps) more h =
    let l = length (spell_all lead) in
    let cut = cut_of fill at lead slot now last in
    let next = at + length (spell_all lead ++ slot) in
    let goal = to + (l + length cut.bytes) in
    let rest = cuts fill next ps ++ more in
    let e : next + old_length ps ≡ at + old_length (replaced lead slot now last ∷ ps) = omega (arith, length-append (spell_all lead ++ slot) (flat_map Rattle.container_model.specs.Units.old_bytes ps)) in
    let again = pairs_go fill next goal ps more (rw e h) in
    let end_is : end_of cut ≡ next = omega (arith, length-append (spell_all lead) slot) in
    All-pairs (Goes (cut ∷ rest) at to) (lead_pairs at to lead) (pairs fill next goal ps)
    (first lead l cut rest refl refl (λ q lt. before_both q (cuts fill next ps) more (before_all fill next ps q (omega (arith, lt, length-append (spell_all lead) slot))) (h q (omega (arith, lt, length-append (spell_all lead) slot, e)))))
    (All-steps (Goes rest next goal) (Goes (cut ∷ rest) at to)
    (λ x g. (
      omega (arith, g.0),
      λ i lt.
          let o = g.1 i lt in
          let past : end_of cut ≤ x.old + i = omega (arith, g.0, end_is) in
          let z = before_lost cut rest (x.old + i) past in
          ((inr past, o.0), omega (arith, z.0, z.1, o.1, length-append (spell_all lead) slot)),
    ))
    (pairs fill next goal ps) again)
  where
    first : (lead : List Chunk) (l : ℕ) (cut : Cut) (rest : List Cut) → l ≡ length (spell_all lead) → cut.at ≡ at + l → ((q : ℕ) → q < at + l → Before q rest) → AllByRecursion (Goes (cut ∷ rest) at to) (lead_pairs at to lead)
    first [] l cut rest e a b = tt
    first (c ∷ cs) l cut rest e a b = (
      (
        omega arith,
        λ i lt.
            let low : at + i < at + l = omega (arith, e, lead_short c cs, bare_short c, lt) in
            let z = before_none (cut ∷ rest) (at + i) (omega (arith, low, a), b (at + i) low) in
            (z.0, omega (arith, z.1, z.2)),
      ),
      tt,
    )

abbrev pub moved_to : (ℕ → ℕ) → Stood → Stood
moved_to f s = record { at = f s.at; chunk = s.chunk }

abbrev pub Moves_as_one : (ℕ → ℕ) → (ℕ → Type 0) → Stood → Type 0
Moves_as_one f Ok s = Rigid f Ok s.at (length (spell s.chunk))

pub spell_some : (c : Chunk) → 0 < length (spell c)
spell_some c = omega (arith, as_many (c ∷ []), length-append (spell c) [])

pub All-kept : (P : Pair → Type 0) (p : Chunk → Bool) (xs : List Pair) → AllByRecursion P xs → AllByRecursion P (only_pairs p xs)
All-kept P p [] h = tt
All-kept P p (x ∷ xs) h = go (p x.chunk) (All-kept P p xs h.1)
  where
    go : (t : Bool) → AllByRecursion P (only_pairs p xs) → AllByRecursion P (cond t (x ∷ only_pairs p xs) (only_pairs p xs))
    go true g = (h.0, g)
    go false g = g

goes_rigid : (cs : List Cut) (at : ℕ) (x : Pair) → Goes cs at at x → (shift cs x.old ≡ x.new) × Rigid (shift cs) (Outside cs) x.old (length (spell x.chunk))
goes_rigid cs at x g =
    let z : x.old + 0 ≡ x.old = omega arith in
    let here = (g.1 0 (spell_some x.chunk)).1 in
    let zero : x.old + gained cs x.old + at ≡ x.new + 0 + at + lost cs x.old = ap (λ (q : ℕ). q + gained cs q + at) (sym z) ∙ here ∙ ap (λ (q : ℕ). x.new + 0 + at + lost cs q) z in
    let first : shift cs x.old ≡ x.new = omega (arith, zero) in
    (first, λ i lt. ((g.1 i lt).0, omega (arith, (g.1 i lt).1, first)))

pub pairs_moved : (cs : List Cut) (at : ℕ) (xs : List Pair) → AllByRecursion (Goes cs at at) xs
    → (map new_of xs ≡ map (moved_to (shift cs)) (map old_of xs)) × AllByRecursion (Moves_as_one (shift cs) (Outside cs)) (map old_of xs)
pairs_moved cs at [] h = (refl, tt)
pairs_moved cs at (x ∷ xs) h =
    let g = goes_rigid cs at x h.0 in
    let again = pairs_moved cs at xs h.1 in
    (rw (again.0, g.0) refl, (g.1, again.1))

-- What is looked for in the new list is what was looked for in the old one, moved; and each moves as one.
pub copied_move : (p : Chunk → Bool) (fill : Fill) → ((last : Bool) (slot : List ℕ) (k : ℕ) → Unseen p (fill last slot k)) → (at : ℕ) (xs : List Cell) → Quiet p xs → (more : List Cut) → Later (at + old_length (units shut xs)) more
    → (only p (stood at (lay fill (units shut xs))) ≡ map (moved_to (shift (cuts fill at (units shut xs) ++ more))) (only p (stood at (flat_map was xs))))
    × AllByRecursion (Moves_as_one (shift (cuts fill at (units shut xs) ++ more)) (Outside (cuts fill at (units shut xs) ++ more))) (only p (stood at (flat_map was xs)))
copied_move p fill fills at xs q more later =
    let ps = units shut xs in
    let cs = cuts fill at ps ++ more in
    let found = only_pairs p (pairs fill at at ps) in
    let new : map new_of found ≡ only p (stood at (lay fill ps)) = new_stood p fill fills at at ps (units_bring shut xs tt) (quiet_units p fill fills shut xs tt q) in
    let z : at + 0 ≡ at = omega arith in
    let old : map old_of found ≡ only p (stood at (flat_map was xs)) = old_stood p fill fills shut xs at tt q at ∙ ap (λ (k : ℕ). only p (stood k (flat_map was xs))) z in
    let m = pairs_moved cs at found (All-kept (Goes cs at at) p (pairs fill at at ps) (pairs_go fill at at ps more later)) in
    (sym new ∙ m.0 ∙ ap (map (moved_to (shift cs))) old, rw old at m.1)
