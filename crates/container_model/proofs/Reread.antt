-- What is laid is read again.
use Rattle.std.proofs.Common.{◌≡◌, ℕ, Bool, true, false, ltb, List, [], ◌∷◌, ◌++◌, length, map, refl, sym, subst, arith, inl, inr}
use Rattle.std.specs.Prelude.{◌&&◌, not}
use Rattle.std.specs.List.{flat_map, AllByRecursion}
use Rattle.std.proofs.lemmas.Bool.{ltb-false}
use Rattle.std.proofs.lemmas.List.{length-replicate, append-nil}
use Rattle.container_model.specs.Chunk.{Form, pad_len, Chunk, spell, spell_all, Header, Head, Heads, Pads, PadStands}
use Rattle.container_model.specs.Units.{Cell, kept, gap, edited, was, padded, lacks_pad, Piece, Slot, shut, begun, is_empty, closed, kept_next, units, unit_bytes, Fill, lay}

-- ---- the headers

-- a chunk whose header is read in any state, and leaves it
abbrev pub Neutral : {S : Type 0} → (S → List ℕ → Header S) → Chunk → Type 0
Neutral {S} front c = (s : S) → Head front s s c

abbrev pub Neutrals : {S : Type 0} → (S → List ℕ → Header S) → List Chunk → Type 0
Neutrals front cs = AllByRecursion (Neutral front) cs

-- each kept chunk's header is read in its turn, and all others are neutral
abbrev pub CellHeads : {S : Type 0} → (S → List ℕ → Header S) → S → List Cell → Type 0
CellHeads front s [] = Unit {0}
CellHeads {S} front s (kept c ∷ xs) = (next : S) × Head front s next c × CellHeads front next xs
CellHeads front s (gap c ∷ xs) = Neutral front c × CellHeads front s xs
CellHeads front s (edited old now ∷ xs) = Neutrals front now × CellHeads front s xs

Heads-neutral : {S : Type 0} (front : S → List ℕ → Header S) (s : S) (a b : List Chunk) → Neutrals front a → Heads front s b → Heads front s (a ++ b)
Heads-neutral front s [] b h g = g
Heads-neutral front s (c ∷ a) b h g = (s, h.0 s, Heads-neutral front s a b h.1 g)

Neutrals-append : {S : Type 0} (front : S → List ℕ → Header S) (a b : List Chunk) → Neutrals front a → Neutrals front b → Neutrals front (a ++ b)
Neutrals-append front [] b h g = g
Neutrals-append front (c ∷ a) b h g = (h.0, Neutrals-append front a b h.1 g)

-- A chunk that a unit's pad follows is read before the unit.
abbrev pub SlotHeads : {S : Type 0} → (S → List ℕ → Header S) → S → S → Slot → Type 0
SlotHeads front s next shut = s ≡ next
SlotHeads front s next (begun [] slot now) = (s ≡ next) × Neutrals front now
SlotHeads front s next (begun (c ∷ cs) slot now) = (cs ≡ []) × Head front s next c × Neutrals front now

module _ {S : Type 0} (front : S → List ℕ → Header S) (fill : Fill) (fills : (last : Bool) (slot : List ℕ) (k : ℕ) → Neutrals front (fill last slot k)) where
  unit_heads : (s next : S) (lead now f tail : List Chunk) (slot : List ℕ) → SlotHeads front s next (begun lead slot now) → Neutrals front f → Heads front next tail
      → Heads front s ((map padded lead ++ (now ++ f)) ++ tail)
  unit_heads s next [] now f tail slot h n t = subst (λ (x : S). Heads front x ((now ++ f) ++ tail)) (sym h.0) (Heads-neutral front next (now ++ f) tail (Neutrals-append front now f h.1 n) t)
  unit_heads s next (c ∷ cs) now f tail slot h n t =
      rw h.0 (next, h.1, Heads-neutral front next (now ++ f) tail (Neutrals-append front now f h.2 n) t)

  closed_heads : (last : Bool) (s next : S) (t : Slot) (ps : List Piece) → SlotHeads front s next t → Heads front next (lay fill ps) → Heads front s (lay fill (closed last t ++ ps))
  closed_heads last s next shut ps h g = subst (λ (x : S). Heads front x (lay fill ps)) (sym h) g
  closed_heads last s next (begun lead slot now) ps h g = unit_heads s next lead now (fill last slot (length (unit_bytes lead now))) (lay fill ps) slot h (fills last slot (length (unit_bytes lead now))) g

  kept_heads : (r : Bool) (s next : S) (c : Chunk) (more : Slot → List Piece) → Head front s next c → ((t : Slot) (s : S) → SlotHeads front s next t → Heads front s (lay fill (more t))) → Heads front s (lay fill (kept_next r c more))
  kept_heads true s next c more h g = g (begun (c ∷ []) [] []) s (refl, h, tt)
  kept_heads false s next c more h g = (next, h, g shut next refl)

  pub lay_heads : (s next : S) (t : Slot) (xs : List Cell) → SlotHeads front s next t → CellHeads front next xs → Heads front s (lay fill (units t xs))
  unfolding units
  lay_heads s next t [] h g = rw (← append-nil (closed true t)) (closed_heads true s next t [] h tt)
  lay_heads s next t (kept c ∷ xs) h g = closed_heads false s next t _ h (kept_heads (lacks_pad c && not (is_empty xs)) next g.0 c (λ u. units u xs) g.1 (λ u r k. lay_heads r g.0 u xs k g.2))
  lay_heads s next shut (gap c ∷ xs) h g =
      let first : Head front next next c = g.0 next in
      kept_heads (lacks_pad c && not (is_empty xs)) s next c (λ u. units u xs) (rw h first) (λ u r k. lay_heads r next u xs k g.1)
  lay_heads s next (begun [] slot now) (gap c ∷ xs) h g = lay_heads s next (begun [] (slot ++ spell c) now) xs h g.1
  lay_heads s next (begun (d ∷ ds) slot now) (gap c ∷ xs) h g = lay_heads s next (begun (d ∷ ds) (slot ++ spell c) now) xs h g.1
  lay_heads s next shut (edited old new ∷ xs) h g = lay_heads s next (begun [] (spell_all old) new) xs (h, g.0) g.1
  lay_heads s next (begun [] slot now) (edited old new ∷ xs) h g = lay_heads s next (begun [] (slot ++ spell_all old) (now ++ new)) xs (h.0, Neutrals-append front now new h.1 g.0) g.1
  lay_heads s next (begun (d ∷ ds) slot now) (edited old new ∷ xs) h g = lay_heads s next (begun (d ∷ ds) (slot ++ spell_all old) (now ++ new)) xs (h.0, h.1, Neutrals-append front now new h.2 g.0) g.1

-- ---- the pads

abbrev pub IsPadded : Chunk → Type 0
IsPadded c = length c.pad ≡ pad_len c.form (length c.body)

abbrev pub ArePadded : List Chunk → Type 0
ArePadded cs = AllByRecursion IsPadded cs

ArePadded-append : (a b : List Chunk) → ArePadded a → ArePadded b → ArePadded (a ++ b)
ArePadded-append [] b h g = g
ArePadded-append (c ∷ a) b h g = (h.0, ArePadded-append a b h.1 g)

padded_is : (cs : List Chunk) → ArePadded (map padded cs)
padded_is [] = tt
padded_is (c ∷ cs) = (length-replicate (pad_len c.form (length c.body)) 0, padded_is cs)

pub Pads-padded : (a b : List Chunk) (left : List ℕ) → ArePadded a → Pads b left → Pads (a ++ b) left
Pads-padded [] b left h g = g
Pads-padded (c ∷ a) b left h g = (inl h.0, Pads-padded a b left h.1 g)

-- the old pads stand, and new chunks have theirs
abbrev pub CellPads : List Cell → List ℕ → Type 0
CellPads [] left = Unit {0}
CellPads (kept c ∷ xs) left = PadStands c.form (length c.body) c.pad (spell_all (flat_map was xs) ++ left) × CellPads xs left
CellPads (gap c ∷ xs) left = PadStands c.form (length c.body) c.pad (spell_all (flat_map was xs) ++ left) × CellPads xs left
CellPads (edited old now ∷ xs) left = ArePadded now × CellPads xs left

abbrev SlotPads : Slot → Type 0
SlotPads shut = Unit {0}
SlotPads (begun lead slot now) = ArePadded now

not_lacking : (form : Form) (n : ℕ) (pad more : List ℕ) → ltb (length pad) (pad_len form n) ≡ false → PadStands form n pad more → length pad ≡ pad_len form n
not_lacking form n pad more e (inl h) = h
not_lacking form n pad more e (inr h) = omega (arith, ltb-false (length pad) (pad_len form n) e, h.0)

module _ (fill : Fill) (fills : (last : Bool) (slot : List ℕ) (k : ℕ) → ArePadded (fill last slot k)) (left : List ℕ) where
  closed_pads : (last : Bool) (t : Slot) (ps : List Piece) → SlotPads t → Pads (lay fill ps) left → Pads (lay fill (closed last t ++ ps)) left
  closed_pads last shut ps h g = g
  closed_pads last (begun lead slot now) ps h g =
      let f = fill last slot (length (unit_bytes lead now)) in
      Pads-padded (map padded lead ++ (now ++ f)) (lay fill ps) left
      (ArePadded-append (map padded lead) (now ++ f) (padded_is lead) (ArePadded-append now f h (fills last slot (length (unit_bytes lead now))))) g

  kept_pads : (c : Chunk) (xs : List Cell) (lacks end : Bool) → lacks_pad c ≡ lacks → is_empty xs ≡ end
      → PadStands c.form (length c.body) c.pad (spell_all (flat_map was xs) ++ left)
      → ((t : Slot) → SlotPads t → Pads (lay fill (units t xs)) left) → Pads (lay fill (kept_next (lacks && not end) c (λ t. units t xs))) left
  unfolding units
  kept_pads c xs true false e i h g = g (begun (c ∷ []) [] []) tt
  kept_pads c [] true true e i h g = (h, tt)
  kept_pads c [] false true e i h g = (h, tt)
  kept_pads c (x ∷ xs) lacks true e i h g = absurd cc
  kept_pads c xs false end e i h g = (inl (not_lacking c.form (length c.body) c.pad _ e h), g shut tt)

  pub lay_pads : (t : Slot) (xs : List Cell) → SlotPads t → CellPads xs left → Pads (lay fill (units t xs)) left
  unfolding units
  lay_pads t [] h g = rw (← append-nil (closed true t)) (closed_pads true t [] h tt)
  lay_pads t (kept c ∷ xs) h g = closed_pads false t _ h (kept_pads c xs (lacks_pad c) (is_empty xs) refl refl g.0 (λ u k. lay_pads u xs k g.1))
  lay_pads shut (gap c ∷ xs) h g = kept_pads c xs (lacks_pad c) (is_empty xs) refl refl g.0 (λ u k. lay_pads u xs k g.1)
  lay_pads (begun lead slot now) (gap c ∷ xs) h g = lay_pads (begun lead (slot ++ spell c) now) xs h g.1
  lay_pads shut (edited old new ∷ xs) h g = lay_pads (begun [] (spell_all old) new) xs g.0 g.1
  lay_pads (begun lead slot now) (edited old new ∷ xs) h g = lay_pads (begun lead (slot ++ spell_all old) (now ++ new)) xs (ArePadded-append now new h g.0) g.1
