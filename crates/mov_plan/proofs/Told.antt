-- What an edit of cells comes to is told by their shapes.
use Rattle.std.proofs.Common.{◌≡◌, ◌∙◌, ℕ, ◌+◌, Bool, true, false, cond, List, [], ◌∷◌, ◌++◌, length, refl, sym, ap, subst, arith, append_assoc, append-nil, length-append, inl, inr, take}
use Rattle.std.specs.Prelude.{◌⊎◌, ◌&&◌, ◌||◌, not, nat_le, codes}
use Rattle.std.specs.List.{list_any}
use Rattle.part_tree.specs.declared.plan.Patch.{Patch}
use Rattle.container_model.specs.Atoms.{atom}
use Rattle.container_model.specs.Chunk.{Chunk, spell, spell_all}
use Rattle.container_model.specs.Splice.{Cut}
use Rattle.container_model.specs.Units.{Cell, kept, gap, edited, lacks_pad, Piece, copied, cuts, replaced, Slot, shut, begun, is_empty, kept_next, units, lead_pad, unit_bytes, lay}
use Rattle.container_model.specs.Units as Units
use Rattle.container_model.specs.Walk.{nested}
use Rattle.container_model.proofs.Units.{begun_bytes, spell_all-append}
use Rattle.carrier_model.proofs.Fitted.{LastOnly, last_units}
use Rattle.carrier_model.specs.Room.{patch, unit_patches}
use Rattle.mov_model.specs.New.{ends_open, fill, grown, hanging}
use Rattle.mov_model.specs.Room.{unit_fits, units_fit}
use Rattle.mov_plan.specs.Rows.{Beyond, Outcome, both, counts, Open, none, unit_at, closed, ended, row, pieces_outcome}
use Rattle.mov_plan.specs.Shapes.{ArePlain, atoms_of, count_all, seen_after, shapes}
use Rattle.mov_plan.proofs.Outcomes.{outcome_eq, both_assoc, both_none}
use Rattle.qt_text.specs.User.{udta}

-- ---- counts of atoms

or_assoc : (a b c : Bool) → ((a || b) || c) ≡ (a || (b || c))
or_assoc true b c = refl
or_assoc false b c = refl

or_false : (a : Bool) → (a || false) ≡ a
or_false true = refl
or_false false = refl

any_both : (a b : List Chunk) → list_any (λ c. udta.is c) (a ++ b) ≡ (list_any (λ c. udta.is c) a || list_any (λ c. udta.is c) b)
any_both [] b = refl
any_both (c ∷ a) b = ap (λ (t : Bool). udta.is c || t) (any_both a b) ∙ sym (or_assoc (udta.is c) (list_any (λ c. udta.is c) a) (list_any (λ c. udta.is c) b))

pub seen_both : (seen : Bool) (a b : List Chunk) → seen_after seen (a ++ b) ≡ seen_after (seen_after seen a) b
seen_both seen a b = ap (λ (t : Bool). seen || t) (any_both a b) ∙ sym (or_assoc seen (list_any (λ c. udta.is c) a) (list_any (λ c. udta.is c) b))

seen_next : (seen : Bool) (c : Chunk) (a : List Chunk) → seen_after (seen || udta.is c) a ≡ seen_after seen (c ∷ a)
seen_next seen c a = or_assoc seen (udta.is c) (list_any (λ c. udta.is c) a)

pub count_both : (seen : Bool) (a b : List Chunk) → count_all seen (a ++ b) ≡ count_all seen a + count_all (seen_after seen a) b
count_both seen [] b = ap (λ (t : Bool). count_all t b) (sym (or_false seen)) ∙ omega arith
count_both seen (c ∷ a) b =
    let again = count_both (seen || udta.is c) a b in
    let same = ap (λ (t : Bool). count_all t b) (seen_next seen c a) in
    omega (arith, again, same)

-- padding counts for one
pub free_one : (seen : Bool) (body : List ℕ) → atoms_of seen (atom (codes "free") body) ≡ 1
unfolding nested
free_one true body = refl
free_one false body = refl

free_unseen : (seen : Bool) (body : List ℕ) → (seen || udta.is (atom (codes "free") body)) ≡ seen
free_unseen true body = refl
free_unseen false body = refl

-- padding of a unit is one atom or none
abbrev pub IsPad : List Chunk → Type 0
IsPad cs = (cs ≡ []) ⊎ ((body : List ℕ) × (cs ≡ atom (codes "free") body ∷ []))

pub fill_pads : (o last : Bool) (slot : List ℕ) (s : ℕ) → IsPad (fill o last slot s)
fill_pads o last slot s = go (o && last) (nat_le (length slot) s) _
  where
    go : (t u : Bool) (body : List ℕ) → IsPad (cond t [] (cond u [] (atom (codes "free") body ∷ [])))
    go true u body = inl refl
    go false true body = inl refl
    go false false body = inr (body, refl)

-- it is no user data
pub pad_count : (seen : Bool) (pad rest : List Chunk) → IsPad pad → count_all seen (pad ++ rest) ≡ length pad + count_all seen rest
pad_count seen pad rest (inl e) = rw e (omega arith)
pad_count seen pad rest (inr h) =
    let free = atom (codes "free") h.0 in
    let a = free_one seen h.0 in
    let b = ap (λ (t : Bool). count_all t rest) (free_unseen seen h.0) in
    let one : count_all seen (free ∷ rest) ≡ 1 + count_all seen rest = omega (arith, a, b) in
    rw h.1 one

-- ---- pieces that bring no pad

abbrev pub NoLead : List Piece → Type 0
NoLead [] = Unit {0}
NoLead (copied c ∷ ps) = NoLead ps
NoLead (replaced lead slot now last ∷ ps) = (lead ≡ []) × NoLead ps

abbrev NoLeadSlot : Slot → Type 0
NoLeadSlot shut = Unit {0}
NoLeadSlot (begun lead slot now) = lead ≡ []

kept_is : (t u : Bool) (c : Chunk) (more : Slot → List Piece) → t ≡ false → kept_next (t && u) c more ≡ copied c ∷ more shut
kept_is true u c more e = absurd cc
kept_is false u c more e = refl

closed_none : (last : Bool) (s : Slot) (ps : List Piece) → NoLeadSlot s → NoLead ps → NoLead (Units.closed last s ++ ps)
closed_none last shut ps h n = n
closed_none last (begun lead slot now) ps h n = (h, n)

pub no_leads : (s : Slot) (xs : List Cell) → NoLeadSlot s → ArePlain xs → NoLead (units s xs)
unfolding units
no_leads s [] h p = subst NoLead (append-nil (Units.closed true s)) (closed_none true s [] h tt)
no_leads s (kept c ∷ xs) h p =
    closed_none false s (kept_next (lacks_pad c && not (is_empty xs)) c (λ t. units t xs)) h
    (subst NoLead (sym (kept_is (lacks_pad c) (not (is_empty xs)) c (λ t. units t xs) p.0)) (no_leads shut xs tt p.1))
no_leads shut (gap c ∷ xs) h p = subst NoLead (sym (kept_is (lacks_pad c) (not (is_empty xs)) c (λ t. units t xs) p.0)) (no_leads shut xs tt p.2)
no_leads (begun lead slot now) (gap c ∷ xs) h p = no_leads (begun lead (slot ++ spell c) now) xs h p.2
no_leads shut (edited old new ∷ xs) h p = no_leads (begun [] (spell_all old) new) xs refl p
no_leads (begun lead slot now) (edited old new ∷ xs) h p = no_leads (begun lead (slot ++ spell_all old) (now ++ new)) xs h p

-- ---- the pieces of cells, piece by piece

abbrev open_of : ℕ → Slot → Open
open_of p shut = none
open_of p (begun lead slot now) = unit_at (p + length (spell_all lead)) slot (unit_bytes lead now)

abbrev slot_count : Bool → Slot → ℕ
slot_count seen shut = 0
slot_count seen (begun lead slot now) = count_all seen now

abbrev seen_in : Bool → Slot → Bool
seen_in seen shut = seen
seen_in seen (begun lead slot now) = seen_after seen now

sum_counts : (m n : ℕ) (y : Outcome) → both (counts (m + n) 0) y ≡ both (counts m 0) (both (counts n 0) y)
sum_counts m n y = both_assoc (counts m 0) (counts n 0) y

module _ (x : Beyond) where
  abbrev pub pieces_sum : Bool → ℕ → List Piece → Outcome
  pieces_sum seen at [] = counts x.gaps 0
  pieces_sum seen at (copied c ∷ ps) = both (counts (atoms_of seen c) (length (spell c))) (pieces_sum (seen || udta.is c) (at + length (spell c)) ps)
  pieces_sum seen at (replaced lead slot now false ∷ ps) =
      both (counts (count_all seen now) 0) (both (closed false false (unit_at (at + length (spell_all lead)) slot (unit_bytes lead now))) (pieces_sum (seen_after seen now) (at + length (spell_all lead ++ slot)) ps))
  pieces_sum seen at (replaced lead slot now true ∷ ps) = both (counts (count_all seen now) 0) (ended x (unit_at (at + length (spell_all lead)) slot (unit_bytes lead now)) x.goes_on)

  -- a kept chunk, behind a unit or none
  kept_sum : (seen : Bool) (p at : ℕ) (s : Slot) (c : Chunk) (ps : List Piece) (more : Outcome) → at ≡ p + length (begun_bytes s)
      → pieces_sum (seen_in seen s || udta.is c) (at + length (spell c)) ps ≡ more
      → pieces_sum seen p (Units.closed false s ++ copied c ∷ ps) ≡ both (counts (slot_count seen s) 0) (both (closed false false (open_of p s)) (both (counts (atoms_of (seen_in seen s) c) (length (spell c))) more))
  kept_sum seen p at shut c ps more e again =
      let here : p ≡ at = omega (arith, e) in
      let y = both (counts (atoms_of seen c) (length (spell c))) more in
      ap (λ (k : ℕ). both (counts (atoms_of seen c) (length (spell c))) (pieces_sum (seen || udta.is c) (k + length (spell c)) ps)) here
      ∙ ap (both (counts (atoms_of seen c) (length (spell c)))) again
      ∙ sym (both_none y) ∙ sym (both_none (both (counts 0 0) y))
  kept_sum seen p at (begun lead slot now) c ps more e again =
      let unit = closed false false (unit_at (p + length (spell_all lead)) slot (unit_bytes lead now)) in
      ap (λ (k : ℕ). both (counts (count_all seen now) 0) (both unit (both (counts (atoms_of (seen_after seen now) c) (length (spell c))) (pieces_sum (seen_after seen now || udta.is c) (k + length (spell c)) ps)))) (sym e)
      ∙ ap (λ (y : Outcome). both (counts (count_all seen now) 0) (both unit (both (counts (atoms_of (seen_after seen now) c) (length (spell c))) y))) again

  pub row_sum : (seen : Bool) (p at : ℕ) (s : Slot) (xs : List Cell) → ArePlain xs → at ≡ p + length (begun_bytes s)
      → pieces_sum seen p (units s xs) ≡ both (counts (slot_count seen s) 0) (row x at (open_of p s) (shapes (seen_in seen s) xs))
  unfolding units row
  row_sum seen p at shut [] h e = sym (both_none (counts x.gaps 0))
  row_sum seen p at (begun lead slot now) [] h e = refl
  row_sum seen p at s (kept c ∷ xs) h e =
      ap (λ (ps : List Piece). pieces_sum seen p (Units.closed false s ++ ps)) (kept_is (lacks_pad c) (not (is_empty xs)) c (λ t. units t xs) h.0)
      ∙ kept_sum seen p at s c (units shut xs) (row x (at + length (spell c)) none (shapes (seen_in seen s || udta.is c) xs)) e
      (row_sum (seen_in seen s || udta.is c) (at + length (spell c)) (at + length (spell c)) shut xs h.1 (omega arith) ∙ both_none (row x (at + length (spell c)) none (shapes (seen_in seen s || udta.is c) xs)))
  row_sum seen p at shut (gap c ∷ xs) h e =
      let here : p ≡ at = omega (arith, e) in
      let to = at + length (spell c) in
      let k = counts (atoms_of seen c) (length (spell c)) in
      let more = row x to none (shapes seen xs) in
      ap (pieces_sum seen p) (kept_is (lacks_pad c) (not (is_empty xs)) c (λ t. units t xs) h.0)
      ∙ ap (λ (q : ℕ). both k (pieces_sum (seen || udta.is c) (q + length (spell c)) (units shut xs))) here
      ∙ ap (λ (t : Bool). both k (pieces_sum (seen || t) to (units shut xs))) h.1
      ∙ ap (λ (t : Bool). both k (pieces_sum t to (units shut xs))) (or_false seen)
      ∙ ap (both k) (row_sum seen to to shut xs h.2 (omega arith) ∙ both_none more)
      ∙ sym (both_none (both k more))
  row_sum seen p at (begun lead slot now) (gap c ∷ xs) h e =
      row_sum seen p (at + length (spell c)) (begun lead (slot ++ spell c) now) xs h.2 (omega (arith, e, length-append (spell_all lead) slot, length-append (spell_all lead) (slot ++ spell c), length-append slot (spell c)))
  row_sum seen p at shut (edited old new ∷ xs) h e =
      let here : p + 0 ≡ at = omega (arith, e) in
      let to = at + length (spell_all old) in
      row_sum seen p to (begun [] (spell_all old) new) xs h (omega (arith, e))
      ∙ ap (λ (k : ℕ). both (counts (count_all seen new) 0) (row x to (unit_at k (spell_all old) (spell_all new)) (shapes (seen_after seen new) xs))) here
      ∙ sym (both_none (both (counts (count_all seen new) 0) (row x to (unit_at at (spell_all old) (spell_all new)) (shapes (seen_after seen new) xs))))
  row_sum seen p at (begun lead slot now) (edited old new ∷ xs) h e =
      let to = at + length (spell_all old) in
      let start = p + length (spell_all lead) in
      let sum = count_both seen now new in
      let spelled : unit_bytes lead (now ++ new) ≡ unit_bytes lead now ++ spell_all new = ap (λ (y : List ℕ). lead_pad lead ++ y) (spell_all-append now new) ∙ sym (append_assoc (lead_pad lead) (spell_all now) (spell_all new)) in
      let s = slot ++ spell_all old in
      row_sum seen p to (begun lead s (now ++ new)) xs h (omega (arith, e, length-append (spell_all lead) slot, length-append (spell_all lead) s, length-append slot (spell_all old)))
      ∙ ap (λ (t : Bool). both (counts (count_all seen (now ++ new)) 0) (row x to (unit_at start s (unit_bytes lead (now ++ new))) (shapes t xs))) (seen_both seen now new)
      ∙ ap (λ (y : List ℕ). both (counts (count_all seen (now ++ new)) 0) (row x to (unit_at start s y) (shapes (seen_after (seen_after seen now) new) xs))) spelled
      ∙ ap (λ (k : ℕ). both (counts k 0) (row x to (unit_at start s (unit_bytes lead now ++ spell_all new)) (shapes (seen_after (seen_after seen now) new) xs))) sum
      ∙ sum_counts (count_all seen now) (count_all (seen_after seen now) new) (row x to (unit_at start s (unit_bytes lead now ++ spell_all new)) (shapes (seen_after (seen_after seen now) new) xs))

-- ---- the same by what the definitions say of all pieces

and_same : (a : Bool) → (a && true) ≡ a
and_same true = refl
and_same false = refl

-- a unit before what follows it
unit_step : (seen : Bool) (now pad rest : List Chunk) (k : Cut) (cs : List Cut) (q qs : List Patch) (f g : Bool) (n : ℕ) → IsPad pad
    → both (counts (count_all seen now) 0)
    (both (record { cuts = k ∷ []; patches = q; fits = f; parts = length pad; inner = length (spell_all now) + length (spell_all pad) })
    (record { cuts = cs; patches = qs; fits = g; parts = count_all (seen_after seen now) rest + n; inner = length (spell_all rest) }))
    ≡ record { cuts = k ∷ cs; patches = q ++ qs; fits = f && g; parts = count_all seen ((now ++ pad) ++ rest) + n; inner = length (spell_all ((now ++ pad) ++ rest)) }
unit_step seen now pad rest k cs q qs f g n is =
    let one : count_all seen ((now ++ pad) ++ rest) ≡ count_all seen now + (length pad + count_all (seen_after seen now) rest) =
    ap (count_all seen) (append_assoc now pad rest) ∙ count_both seen now (pad ++ rest) ∙ ap (λ (j : ℕ). count_all seen now + j) (pad_count (seen_after seen now) pad rest is)
    in
    let two : length (spell_all ((now ++ pad) ++ rest)) ≡ (length (spell_all now) + length (spell_all pad)) + length (spell_all rest) =
    ap (λ (b : List ℕ). length b) (spell_all-append (now ++ pad) rest ∙ ap (λ (b : List ℕ). b ++ spell_all rest) (spell_all-append now pad))
    ∙ length-append (spell_all now ++ spell_all pad) (spell_all rest) ∙ ap (λ (j : ℕ). j + length (spell_all rest)) (length-append (spell_all now) (spell_all pad))
    in
    outcome_eq _ _ refl refl refl (omega (arith, one)) (omega (arith, two))

copy_step : (seen : Bool) (c : Chunk) (rest : List Chunk) (cs : List Cut) (qs : List Patch) (g : Bool) (n : ℕ)
    → both (counts (atoms_of seen c) (length (spell c))) (record { cuts = cs; patches = qs; fits = g; parts = count_all (seen || udta.is c) rest + n; inner = length (spell_all rest) })
    ≡ record { cuts = cs; patches = qs; fits = g; parts = count_all seen (c ∷ rest) + n; inner = length (spell_all (c ∷ rest)) }
copy_step seen c rest cs qs g n = outcome_eq _ _ refl refl refl (omega arith) (sym (length-append (spell c) (spell_all rest)))

module _ (x : Beyond) where
  -- no slot goes on behind moov
  abbrev plain_outcome : Bool → ℕ → List Piece → Outcome
  plain_outcome seen at ps = record {
    cuts = cuts (fill false) at ps;
    patches = unit_patches (fill false) at ps;
    fits = units_fit false ps;
    parts = count_all seen (lay (fill false) ps) + x.gaps;
    inner = length (spell_all (lay (fill false) ps));
  }

  plain_unit : (seen : Bool) (at : ℕ) (slot : List ℕ) (now : List Chunk) (last : Bool) (ps : List Piece) (more : Outcome) → more ≡ plain_outcome (seen_after seen now) (at + length slot) ps
      → both (counts (count_all seen now) 0) (both (closed false false (unit_at (at + 0) slot (unit_bytes [] now))) more) ≡ plain_outcome seen at (replaced [] slot now last ∷ ps)
  plain_unit seen at slot now last ps more e =
      let u = unit_bytes [] now in
      let pad = fill false last slot (length u) in
      ap (λ (y : Outcome). both (counts (count_all seen now) 0) (both (closed false false (unit_at (at + 0) slot u)) y)) e
      ∙ unit_step seen now pad (lay (fill false) ps) _ (cuts (fill false) (at + length slot) ps) (patch (at + 0) (u ++ take 8 (spell_all pad))) (unit_patches (fill false) (at + length slot) ps) (unit_fits false (length slot) (length u)) (units_fit false ps) x.gaps (fill_pads false last slot (length u))

  plain_sum : (seen : Bool) (at : ℕ) (ps : List Piece) → LastOnly ps → NoLead ps → (ends_open ps ≡ true → x.goes_on ≡ false) → pieces_sum x seen at ps ≡ plain_outcome seen at ps
  plain_sum seen at [] l n o = outcome_eq _ _ refl refl refl (omega arith) refl
  plain_sum seen at (copied c ∷ ps) l n o =
      ap (both (counts (atoms_of seen c) (length (spell c)))) (plain_sum (seen || udta.is c) (at + length (spell c)) ps l n o)
      ∙ copy_step seen c (lay (fill false) ps) (cuts (fill false) (at + length (spell c)) ps) (unit_patches (fill false) (at + length (spell c)) ps) (units_fit false ps) x.gaps
  plain_sum seen at (replaced lead slot now false ∷ ps) l n o =
      subst (λ (ld : List Chunk). pieces_sum x seen at (replaced ld slot now false ∷ ps) ≡ plain_outcome seen at (replaced ld slot now false ∷ ps)) (sym n.0)
      (plain_unit seen at slot now false ps (pieces_sum x (seen_after seen now) (at + length slot) ps) (plain_sum (seen_after seen now) (at + length slot) ps l.1 n.1 o))
  plain_sum seen at (replaced lead slot now true ∷ ps) l n o =
      let end : counts x.gaps 0 ≡ plain_outcome (seen_after seen now) (at + length slot) [] = outcome_eq _ _ refl refl refl (omega arith) refl in
      let one : both (counts (count_all seen now) 0) (ended x (unit_at (at + 0) slot (unit_bytes [] now)) x.goes_on) ≡ plain_outcome seen at (replaced [] slot now true ∷ []) =
      ap (λ (t : Bool). both (counts (count_all seen now) 0) (ended x (unit_at (at + 0) slot (unit_bytes [] now)) t)) (o refl)
      ∙ plain_unit seen at slot now true [] (counts x.gaps 0) end
      in
      subst (λ (qs : List Piece). pieces_sum x seen at (replaced lead slot now true ∷ qs) ≡ plain_outcome seen at (replaced lead slot now true ∷ qs)) (sym (l.0 refl))
      (subst (λ (ld : List Chunk). pieces_sum x seen at (replaced ld slot now true ∷ []) ≡ plain_outcome seen at (replaced ld slot now true ∷ [])) (sym n.0) one)

  -- the last slot goes on behind moov, and may end the file
  abbrev open_outcome : Bool → Bool → ℕ → List Piece → Outcome
  open_outcome e seen at ps = record {
    cuts = cuts (fill e) at (grown x.slot ps);
    patches = unit_patches (fill e) at (grown x.slot ps);
    fits = units_fit e (grown x.slot ps);
    parts = count_all seen (lay (fill true) ps) + length (hanging (fill e) (grown x.slot ps));
    inner = length (spell_all (lay (fill true) ps));
  }

  open_unit : (e seen : Bool) (at : ℕ) (slot : List ℕ) (now : List Chunk) (ps : List Piece) (more : Outcome) → more ≡ open_outcome e (seen_after seen now) (at + length slot) ps
      → both (counts (count_all seen now) 0) (both (closed false false (unit_at (at + 0) slot (unit_bytes [] now))) more) ≡ open_outcome e seen at (replaced [] slot now false ∷ ps)
  open_unit true seen at slot now ps more h =
      let u = unit_bytes [] now in
      let pad = fill true false slot (length u) in
      ap (λ (y : Outcome). both (counts (count_all seen now) 0) (both (closed false false (unit_at (at + 0) slot u)) y)) h
      ∙ unit_step seen now pad (lay (fill true) ps) _ (cuts (fill true) (at + length slot) (grown x.slot ps)) (patch (at + 0) (u ++ take 8 (spell_all pad))) (unit_patches (fill true) (at + length slot) (grown x.slot ps)) (unit_fits false (length slot) (length u)) (units_fit true (grown x.slot ps)) (length (hanging (fill true) (grown x.slot ps))) (fill_pads true false slot (length u))
  open_unit false seen at slot now ps more h =
      let u = unit_bytes [] now in
      let pad = fill true false slot (length u) in
      ap (λ (y : Outcome). both (counts (count_all seen now) 0) (both (closed false false (unit_at (at + 0) slot u)) y)) h
      ∙ unit_step seen now pad (lay (fill true) ps) _ (cuts (fill false) (at + length slot) (grown x.slot ps)) (patch (at + 0) (u ++ take 8 (spell_all pad))) (unit_patches (fill false) (at + length slot) (grown x.slot ps)) (unit_fits false (length slot) (length u)) (units_fit false (grown x.slot ps)) (length (hanging (fill false) (grown x.slot ps))) (fill_pads true false slot (length u))

  last_unit : (e seen : Bool) (at : ℕ) (slot : List ℕ) (now : List Chunk) → x.last ≡ e
      → both (counts (count_all seen now) 0) (ended x (unit_at (at + 0) slot (unit_bytes [] now)) true) ≡ open_outcome e seen at (replaced [] slot now true ∷ [])
  last_unit e seen at slot now h =
      let u = unit_bytes [] now in
      let pad = fill e true (slot ++ x.slot) (length u) in
      let all : (now ++ []) ++ [] ≡ now = append-nil (now ++ []) ∙ append-nil now in
      ap (λ (t : Bool). both (counts (count_all seen now) 0) (closed t true (unit_at (at + 0) (slot ++ x.slot) u))) h
      ∙ outcome_eq _ _ refl (sym (append-nil (patch (at + 0) (u ++ take 8 (spell_all pad)))))
      (sym (and_same (unit_fits (e && true) (length (slot ++ x.slot)) (length u)) ∙ ap (λ (t : Bool). unit_fits t (length (slot ++ x.slot)) (length u)) (and_same e)))
      (ap (λ (cs : List Chunk). count_all seen cs + length pad) (sym all))
      (let same = ap (λ (cs : List Chunk). length (spell_all cs)) all in omega (arith, same))

  open_sum : (e seen : Bool) (at : ℕ) (ps : List Piece) → x.goes_on ≡ true → x.last ≡ e → LastOnly ps → NoLead ps → ends_open ps ≡ true → pieces_sum x seen at ps ≡ open_outcome e seen at ps
  open_sum e seen at [] a b l n o = absurd cc
  open_sum e seen at (copied c ∷ ps) a b l n o =
      ap (both (counts (atoms_of seen c) (length (spell c)))) (open_sum e (seen || udta.is c) (at + length (spell c)) ps a b l n o)
      ∙ copy_step seen c (lay (fill true) ps) (cuts (fill e) (at + length (spell c)) (grown x.slot ps)) (unit_patches (fill e) (at + length (spell c)) (grown x.slot ps)) (units_fit e (grown x.slot ps)) (length (hanging (fill e) (grown x.slot ps)))
  open_sum e seen at (replaced lead slot now false ∷ ps) a b l n o =
      subst (λ (ld : List Chunk). pieces_sum x seen at (replaced ld slot now false ∷ ps) ≡ open_outcome e seen at (replaced ld slot now false ∷ ps)) (sym n.0)
      (open_unit e seen at slot now ps (pieces_sum x (seen_after seen now) (at + length slot) ps) (open_sum e (seen_after seen now) (at + length slot) ps a b l.1 n.1 o))
  open_sum e seen at (replaced lead slot now true ∷ ps) a b l n o =
      let one : both (counts (count_all seen now) 0) (ended x (unit_at (at + 0) slot (unit_bytes [] now)) x.goes_on) ≡ open_outcome e seen at (replaced [] slot now true ∷ []) =
      ap (λ (t : Bool). both (counts (count_all seen now) 0) (ended x (unit_at (at + 0) slot (unit_bytes [] now)) t)) a ∙ last_unit e seen at slot now b
      in
      subst (λ (qs : List Piece). pieces_sum x seen at (replaced lead slot now true ∷ qs) ≡ open_outcome e seen at (replaced lead slot now true ∷ qs)) (sym (l.0 refl))
      (subst (λ (ld : List Chunk). pieces_sum x seen at (replaced ld slot now true ∷ []) ≡ open_outcome e seen at (replaced ld slot now true ∷ [])) (sym n.0) one)

  -- by whether the last slot goes on behind moov
  pub sum_is : (seen : Bool) (at : ℕ) (ps : List Piece) → LastOnly ps → NoLead ps → pieces_sum x seen at ps ≡ pieces_outcome x seen at ps
  sum_is seen at ps l n = go x.goes_on (ends_open ps) refl refl
    where
      go : (t u : Bool) → x.goes_on ≡ t → ends_open ps ≡ u → pieces_sum x seen at ps ≡ pieces_outcome x seen at ps
      go true true a o = open_sum x.last seen at ps a refl l n o ∙ rw (a, o) refl
      go true false a o = plain_sum seen at ps l n (λ h. absurd cc) ∙ rw (a, o) refl
      go false u a o = plain_sum seen at ps l n (λ h. a) ∙ rw a refl

  -- What an edit of cells comes to is told by their shapes.
  pub shapes_tell : (at : ℕ) (xs : List Cell) → ArePlain xs → row x at none (shapes false xs) ≡ pieces_outcome x false at (units shut xs)
  shapes_tell at xs h =
      sym (both_none (row x at none (shapes false xs))) ∙ sym (row_sum x false at at shut xs h (omega arith))
      ∙ sum_is false at (units shut xs) (last_units shut xs) (no_leads shut xs tt h)
