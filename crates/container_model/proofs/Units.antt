-- What units leave: the old bytes with the slots replaced, and every chunk that is no padding.
use Rattle.std.proofs.Common.{◌≡◌, ℕ, zero, suc, ◌+◌, ◌-◌, ◌≤◌, Bool, true, false, cond, List, [], ◌∷◌, ◌++◌, length, map, take, drop, refl, sym, ap, ◌∙◌, append_assoc, arith}
use Rattle.std.specs.Prelude.{◌&&◌, not}
use Rattle.std.specs.List.{flat_map, AllByRecursion}
use Rattle.std.proofs.lemmas.Bool.{ltb-true, and_parts}
use Rattle.std.proofs.lemmas.List.{take_at, drop_at, length-append, append-nil, nil_from_length}
use Rattle.std.proofs.lemmas.List.Concat.{flat_map-append}
use Rattle.container_model.specs.Chunk.{Form, riff, wide, short, long, to_end, pad_len, Chunk, spell, spell_all}
use Rattle.container_model.specs.Splice.{Cut, end_of, splice_from}
use Rattle.container_model.specs.Units.{Cell, kept, gap, edited, was, padded, lacks_pad, Piece, copied, replaced, Slot, shut, begun, is_empty, closed, kept_next, units, old_bytes, lead_pad, unit_bytes, Fill, now_chunks, lay, cut_of, cuts, solid, solids, live}

pub spell_all-append : (a b : List Chunk) → spell_all (a ++ b) ≡ spell_all a ++ spell_all b
spell_all-append [] b = refl
spell_all-append (c ∷ a) b = rw (spell_all-append a b) (sym (append_assoc (spell c) (spell_all a) (spell_all b)))

-- ---- the old bytes

abbrev pub begun_bytes : Slot → List ℕ
begun_bytes shut = []
begun_bytes (begun lead slot now) = spell_all lead ++ slot

closed_bytes : (last : Bool) (s : Slot) → flat_map old_bytes (closed last s) ≡ begun_bytes s
closed_bytes last shut = refl
closed_bytes last (begun lead slot now) = append-nil (spell_all lead ++ slot)

kept_bytes : (r : Bool) (c : Chunk) (more : Slot → List Piece) (b : List ℕ) → ((s : Slot) → flat_map old_bytes (more s) ≡ begun_bytes s ++ b) → flat_map old_bytes (kept_next r c more) ≡ spell c ++ b
kept_bytes true c more b h = h (begun (c ∷ []) [] []) ∙ ap (λ (x : List ℕ). x ++ b) (append-nil (spell c ++ []) ∙ append-nil (spell c))
kept_bytes false c more b h = ap (λ (x : List ℕ). spell c ++ x) (h shut)

-- a unit's slot and the chunks that are copied make up the old bytes
pub units_old : (s : Slot) (xs : List Cell) → flat_map old_bytes (units s xs) ≡ begun_bytes s ++ spell_all (flat_map was xs)
unfolding units
units_old s [] = closed_bytes true s ∙ sym (append-nil (begun_bytes s))
units_old s (kept c ∷ xs) =
    flat_map-append old_bytes (closed false s) (kept_next (lacks_pad c && not (is_empty xs)) c (λ t. units t xs))
    ∙ rw (closed_bytes false s, kept_bytes (lacks_pad c && not (is_empty xs)) c (λ t. units t xs) (spell_all (flat_map was xs)) (λ t. units_old t xs)) refl
units_old shut (gap c ∷ xs) = kept_bytes (lacks_pad c && not (is_empty xs)) c (λ t. units t xs) (spell_all (flat_map was xs)) (λ t. units_old t xs)
units_old (begun lead slot now) (gap c ∷ xs) = units_old (begun lead (slot ++ spell c) now) xs ∙ simp append_assoc
units_old shut (edited old new ∷ xs) = units_old (begun [] (spell_all old) new) xs ∙ sym (spell_all-append old (flat_map was xs))
units_old (begun lead slot now) (edited old new ∷ xs) = units_old (begun lead (slot ++ spell_all old) (now ++ new)) xs ∙ simp (append_assoc, spell_all-append)

-- ---- what is no padding

abbrev pub GapsArePadding : (List ℕ → Bool) → List Cell → Type 0
GapsArePadding p [] = Unit {0}
GapsArePadding p (kept c ∷ xs) = GapsArePadding p xs
GapsArePadding p (gap c ∷ xs) = (p c.id ≡ true) × GapsArePadding p xs
GapsArePadding p (edited old now ∷ xs) = GapsArePadding p xs

abbrev pub FillsWithPadding : (List ℕ → Bool) → Fill → Type 0
FillsWithPadding p fill = (last : Bool) (slot : List ℕ) (s : ℕ) → solids p (fill last slot s) ≡ []

abbrev begun_now : Slot → List Chunk
begun_now shut = []
begun_now (begun lead slot now) = lead ++ now

solids-append : (p : List ℕ → Bool) (a b : List Chunk) → solids p (a ++ b) ≡ solids p a ++ solids p b
solids-append p a b = flat_map-append (solid p) a b

solids-padded : (p : List ℕ → Bool) (cs : List Chunk) → solids p (map padded cs) ≡ solids p cs
solids-padded p [] = refl
solids-padded p (c ∷ cs) = ap (λ (x : List Chunk). solid p c ++ x) (solids-padded p cs)

solids_gap : (p : List ℕ → Bool) (c : Chunk) → p c.id ≡ true → solid p c ≡ []
solids_gap p c e = rw e refl

abbrev now_solids : (List ℕ → Bool) → Fill → List Piece → List Chunk
now_solids p fill ps = solids p (lay fill ps)

now_solids-append : (p : List ℕ → Bool) (fill : Fill) (a b : List Piece) → now_solids p fill (a ++ b) ≡ now_solids p fill a ++ now_solids p fill b
now_solids-append p fill a b = ap (solids p) (flat_map-append (now_chunks fill) a b) ∙ solids-append p (lay fill a) (lay fill b)

closed_solids : (p : List ℕ → Bool) (fill : Fill) → FillsWithPadding p fill → (last : Bool) (s : Slot) → now_solids p fill (closed last s) ≡ solids p (begun_now s)
closed_solids p fill h last shut = refl
closed_solids p fill h last (begun lead slot now) =
    let f = fill last slot (length (unit_bytes lead now)) in
    let one : solids p (map padded lead ++ (now ++ f)) ≡ solids p (map padded lead) ++ (solids p now ++ solids p f) = solids-append p (map padded lead) (now ++ f) ∙ ap (λ (x : List Chunk). solids p (map padded lead) ++ x) (solids-append p now f) in
    ap (solids p) (append-nil (map padded lead ++ (now ++ f)))
    ∙ one ∙ rw (h last slot (length (unit_bytes lead now)), append-nil (solids p now), solids-padded p lead) (sym (solids-append p lead now))

kept_solids : (p : List ℕ → Bool) (fill : Fill) (r : Bool) (c : Chunk) (more : Slot → List Piece) (b : List Chunk)
    → ((s : Slot) → now_solids p fill (more s) ≡ solids p (begun_now s) ++ b) → now_solids p fill (kept_next r c more) ≡ solid p c ++ b
kept_solids p fill true c more b h = h (begun (c ∷ []) [] []) ∙ ap (λ (x : List Chunk). x ++ b) (append-nil (solid p c))
kept_solids p fill false c more b h = ap (λ (x : List Chunk). solid p c ++ x) (h shut)

-- What is no padding is what the cells say, in order.
pub units_solids : (p : List ℕ → Bool) (fill : Fill) → FillsWithPadding p fill → (s : Slot) (xs : List Cell) → GapsArePadding p xs
    → solids p (lay fill (units s xs)) ≡ solids p (begun_now s) ++ solids p (flat_map live xs)
unfolding units
units_solids p fill h s [] g = closed_solids p fill h true s ∙ sym (append-nil (solids p (begun_now s)))
units_solids p fill h s (kept c ∷ xs) g =
    now_solids-append p fill (closed false s) (kept_next (lacks_pad c && not (is_empty xs)) c (λ t. units t xs))
    ∙ rw (closed_solids p fill h false s, kept_solids p fill (lacks_pad c && not (is_empty xs)) c (λ t. units t xs) (solids p (flat_map live xs)) (λ t. units_solids p fill h t xs g)) refl
units_solids p fill h shut (gap c ∷ xs) g =
    kept_solids p fill (lacks_pad c && not (is_empty xs)) c (λ t. units t xs) (solids p (flat_map live xs)) (λ t. units_solids p fill h t xs g.1) ∙ rw (solids_gap p c g.0) refl
units_solids p fill h (begun lead slot now) (gap c ∷ xs) g = units_solids p fill h (begun lead (slot ++ spell c) now) xs g.1
units_solids p fill h shut (edited old new ∷ xs) g = units_solids p fill h (begun [] (spell_all old) new) xs g ∙ sym (solids-append p new (flat_map live xs))
units_solids p fill h (begun lead slot now) (edited old new ∷ xs) g =
    units_solids p fill h (begun lead (slot ++ spell_all old) (now ++ new)) xs g ∙ simp (append_assoc, solids-append)

-- ---- the splice

pub take_past : (x b : List ℕ) (n : ℕ) → length x ≤ n → take n (x ++ b) ≡ x ++ take (n - length x) b
take_past [] b n h = let e : n - 0 ≡ n = omega arith in rw e refl
take_past (y ∷ x) b zero h = absurd (omega arith)
take_past (y ∷ x) b (suc n) h =
    let e : suc n - length (y ∷ x) ≡ n - length x = omega arith in
    rw e (ap (λ (t : List ℕ). y ∷ t) (take_past x b n (omega arith)))

pub drop_past : (x b : List ℕ) (n : ℕ) → length x ≤ n → drop n (x ++ b) ≡ drop (n - length x) b
drop_past [] b n h = let e : n - 0 ≡ n = omega arith in rw e refl
drop_past (y ∷ x) b zero h = absurd (omega arith)
drop_past (y ∷ x) b (suc n) h =
    let e : suc n - length (y ∷ x) ≡ n - length x = omega arith in
    rw e (drop_past x b n (omega arith))

-- the first span begins at a place or behind it
abbrev pub From : ℕ → List Cut → Type 0
From at [] = Unit {0}
From at (c ∷ cs) = at ≤ c.at

-- what stands before the first span is copied
pub splice_past : (at : ℕ) (x b : List ℕ) (cs : List Cut) → From (at + length x) cs → splice_from at (x ++ b) cs ≡ x ++ splice_from (at + length x) b cs
splice_past at x b [] h = refl
splice_past at x b (c ∷ cs) h =
    let e1 : (c.at - at) - length x ≡ c.at - (at + length x) = omega arith in
    let e2 : (end_of c - at) - length x ≡ end_of c - (at + length x) = omega arith in
    rw (take_past x b (c.at - at) (omega arith), drop_past x b (end_of c - at) (omega arith), e1, e2, append_assoc x (take (c.at - (at + length x)) b) (c.bytes ++ splice_from (end_of c) (drop (end_of c - (at + length x)) b) cs)) refl

pub cuts_from : (fill : Fill) (at : ℕ) (ps : List Piece) (low : ℕ) → low ≤ at → From low (cuts fill at ps)
cuts_from fill at [] low h = tt
cuts_from fill at (copied c ∷ ps) low h = cuts_from fill (at + length (spell c)) ps low (omega arith)
cuts_from fill at (replaced lead slot now last ∷ ps) low h = omega arith

-- a chunk before a unit, with the pad that the unit brings
abbrev pub BringsPad : List Piece → Type 0
BringsPad [] = Unit {0}
BringsPad (copied c ∷ ps) = BringsPad ps
BringsPad (replaced lead slot now last ∷ ps) = (spell_all (map padded lead) ≡ spell_all lead ++ lead_pad lead) × BringsPad ps

-- The chunks that are laid are spelled as the old bytes with the slots replaced.
pub lay_splices : (fill : Fill) (at : ℕ) (ps : List Piece) (rest : List ℕ) → BringsPad ps
    → splice_from at (flat_map old_bytes ps ++ rest) (cuts fill at ps) ≡ spell_all (lay fill ps) ++ rest
lay_splices fill at [] rest h = refl
lay_splices fill at (copied c ∷ ps) rest h =
    let b = flat_map old_bytes ps ++ rest in
    let one : splice_from at ((spell c ++ flat_map old_bytes ps) ++ rest) (cuts fill (at + length (spell c)) ps) ≡ splice_from at (spell c ++ b) (cuts fill (at + length (spell c)) ps)
    = ap (λ (x : List ℕ). splice_from at x (cuts fill (at + length (spell c)) ps)) (append_assoc (spell c) (flat_map old_bytes ps) rest) in
    one ∙ splice_past at (spell c) b (cuts fill (at + length (spell c)) ps) (cuts_from fill (at + length (spell c)) ps (at + length (spell c)) (omega arith))
    ∙ rw (lay_splices fill (at + length (spell c)) ps rest h) (sym (append_assoc (spell c) (spell_all (lay fill ps)) rest))
lay_splices fill at (replaced lead slot now last ∷ ps) rest h =
    let b = flat_map old_bytes ps ++ rest in
    let l = spell_all lead in
    let c = cut_of fill at lead slot now last in
    let next = at + length (l ++ slot) in
    let f = fill last slot (length (unit_bytes lead now)) in
    let e1 : c.at - at ≡ length l = omega arith in
    let e2 : end_of c - at ≡ length (l ++ slot) = omega (arith, length-append l slot) in
    let e3 : end_of c ≡ next = omega (arith, length-append l slot) in
    let old : ((l ++ slot) ++ flat_map old_bytes ps) ++ rest ≡ (l ++ slot) ++ b = append_assoc (l ++ slot) (flat_map old_bytes ps) rest in
    let front : take (c.at - at) ((l ++ slot) ++ b) ≡ l = rw (e1, append_assoc l slot b) (take_at l (slot ++ b) (length l) refl) in
    let back : drop (end_of c - at) ((l ++ slot) ++ b) ≡ b = rw e2 (drop_at (l ++ slot) b (length (l ++ slot)) refl) in
    let again : splice_from (end_of c) b (cuts fill next ps) ≡ spell_all (lay fill ps) ++ rest = rw e3 (lay_splices fill next ps rest h.1) in
    let new : spell_all (lay fill (replaced lead slot now last ∷ ps)) ≡ (l ++ lead_pad lead) ++ ((spell_all now ++ spell_all f) ++ spell_all (lay fill ps))
    = rw (spell_all-append (map padded lead ++ (now ++ f)) (lay fill ps), spell_all-append (map padded lead) (now ++ f), spell_all-append now f, h.0) (append_assoc (l ++ lead_pad lead) (spell_all now ++ spell_all f) (spell_all (lay fill ps))) in
    rw (old, front, back, again, new) (simp append_assoc)

pad_len_low : (form : Form) (n : ℕ) → pad_len form n ≤ 1
pad_len_low riff n = omega arith
pad_len_low wide n = omega arith
pad_len_low short n = omega arith
pad_len_low long n = omega arith
pad_len_low to_end n = omega arith

one_pad : (c : Chunk) → lacks_pad c ≡ true → spell_all (map padded (c ∷ [])) ≡ spell_all (c ∷ []) ++ lead_pad (c ∷ [])
one_pad c e =
    let less = ltb-true _ _ e in
    let low = pad_len_low c.form (length c.body) in
    let none : c.pad ≡ [] = nil_from_length c.pad (omega arith) in
    let one : pad_len c.form (length c.body) ≡ 1 = omega arith in
    rw (one, none) (simp append_assoc)

BringsPad-append : (a b : List Piece) → BringsPad a → BringsPad b → BringsPad (a ++ b)
BringsPad-append [] b h g = g
BringsPad-append (copied c ∷ a) b h g = BringsPad-append a b h g
BringsPad-append (replaced lead slot now last ∷ a) b h g = (h.0, BringsPad-append a b h.1 g)

abbrev SlotBrings : Slot → Type 0
SlotBrings shut = Unit {0}
SlotBrings (begun lead slot now) = spell_all (map padded lead) ≡ spell_all lead ++ lead_pad lead

closed_brings : (last : Bool) (s : Slot) → SlotBrings s → BringsPad (closed last s)
closed_brings last shut h = tt
closed_brings last (begun lead slot now) h = (h, tt)

kept_brings : (r x : Bool) (c : Chunk) (more : Slot → List Piece) → lacks_pad c ≡ x → (r ≡ true → x ≡ true) → ((s : Slot) → SlotBrings s → BringsPad (more s)) → BringsPad (kept_next r c more)
kept_brings true x c more e i h = h (begun (c ∷ []) [] []) (one_pad c (e ∙ i refl))
kept_brings false x c more e i h = h shut tt

pub units_bring : (s : Slot) (xs : List Cell) → SlotBrings s → BringsPad (units s xs)
unfolding units
units_bring s [] h = closed_brings true s h
units_bring s (kept c ∷ xs) h =
    BringsPad-append (closed false s) _ (closed_brings false s h)
    (kept_brings (lacks_pad c && not (is_empty xs)) (lacks_pad c) c (λ t. units t xs) refl (λ e. (and_parts (lacks_pad c) (not (is_empty xs)) e).0) (λ t. units_bring t xs))
units_bring shut (gap c ∷ xs) h =
    kept_brings (lacks_pad c && not (is_empty xs)) (lacks_pad c) c (λ t. units t xs) refl (λ e. (and_parts (lacks_pad c) (not (is_empty xs)) e).0) (λ t. units_bring t xs)
units_bring (begun lead slot now) (gap c ∷ xs) h = units_bring (begun lead (slot ++ spell c) now) xs h
units_bring shut (edited old new ∷ xs) h = units_bring (begun [] (spell_all old) new) xs refl
units_bring (begun lead slot now) (edited old new ∷ xs) h = units_bring (begun lead (slot ++ spell_all old) (now ++ new)) xs h

-- ---- a view of chunks, to which padding and pads are nothing

pub record Ignores {X : Type 0} (p : List ℕ → Bool) (v : Chunk → List X) : Type 0 where
  pub padding : (c : Chunk) → p c.id ≡ true → v c ≡ []
  pub pads : (c : Chunk) → v (record c { pad = [] }) ≡ v c

view_solids : {X : Type 0} (p : List ℕ → Bool) (v : Chunk → List X) → Ignores p v → (cs : List Chunk) → flat_map v (solids p cs) ≡ flat_map v cs
view_solids p v h [] = refl
view_solids p v h (c ∷ cs) = flat_map-append v (solid p c) (solids p cs) ∙ rw (one (p c.id) refl, view_solids p v h cs) refl
  where
    one : (b : Bool) → p c.id ≡ b → flat_map v (cond b [] (record c { pad = [] } ∷ [])) ≡ v c
    one true e = sym (h.padding c e)
    one false e = append-nil (v (record c { pad = [] })) ∙ h.pads c

-- what a view sees of the chunks that are laid is what it sees of the cells
pub view_lay : {X : Type 0} (p : List ℕ → Bool) (v : Chunk → List X) → Ignores p v → (fill : Fill) → FillsWithPadding p fill → (xs : List Cell) → GapsArePadding p xs
    → flat_map v (lay fill (units shut xs)) ≡ flat_map v (flat_map live xs)
view_lay p v h fill f xs g =
    sym (view_solids p v h (lay fill (units shut xs))) ∙ ap (flat_map v) (units_solids p fill f shut xs g) ∙ view_solids p v h (flat_map live xs)

-- ---- a property of each chunk

pub record Keeps (P : Chunk → Type 0) (fill : Fill) : Type 0 where
  pub on_pads : (c : Chunk) → P c → P (padded c)
  pub on_fill : (last : Bool) (slot : List ℕ) (s : ℕ) → AllByRecursion P (fill last slot s)

abbrev pub AllCells : (Chunk → Type 0) → List Cell → Type 0
AllCells P [] = Unit {0}
AllCells P (kept c ∷ xs) = P c × AllCells P xs
AllCells P (gap c ∷ xs) = P c × AllCells P xs
AllCells P (edited old now ∷ xs) = AllByRecursion P now × AllCells P xs

abbrev SlotAll : (Chunk → Type 0) → Slot → Type 0
SlotAll P shut = Unit {0}
SlotAll P (begun lead slot now) = AllByRecursion P lead × AllByRecursion P now

pub All-both : (P : Chunk → Type 0) (a b : List Chunk) → AllByRecursion P a → AllByRecursion P b → AllByRecursion P (a ++ b)
All-both P [] b h g = g
All-both P (c ∷ a) b h g = (h.0, All-both P a b h.1 g)

module _ (P : Chunk → Type 0) (fill : Fill) (keeps : Keeps P fill) where
  all_padded : (cs : List Chunk) → AllByRecursion P cs → AllByRecursion P (map padded cs)
  all_padded [] h = tt
  all_padded (c ∷ cs) h = (keeps.on_pads c h.0, all_padded cs h.1)

  all_closed : (last : Bool) (t : Slot) (ps : List Piece) → SlotAll P t → AllByRecursion P (lay fill ps) → AllByRecursion P (lay fill (closed last t ++ ps))
  all_closed last shut ps h g = g
  all_closed last (begun lead slot now) ps h g =
      let f = fill last slot (length (unit_bytes lead now)) in
      All-both P (map padded lead ++ (now ++ f)) (lay fill ps)
      (All-both P (map padded lead) (now ++ f) (all_padded lead h.0) (All-both P now f h.1 (keeps.on_fill last slot (length (unit_bytes lead now))))) g

  all_kept : (r : Bool) (c : Chunk) (more : Slot → List Piece) → P c → ((t : Slot) → SlotAll P t → AllByRecursion P (lay fill (more t))) → AllByRecursion P (lay fill (kept_next r c more))
  all_kept true c more h g = g (begun (c ∷ []) [] []) ((h, tt), tt)
  all_kept false c more h g = (h, g shut tt)

  pub lay_all : (t : Slot) (xs : List Cell) → SlotAll P t → AllCells P xs → AllByRecursion P (lay fill (units t xs))
  unfolding units
  lay_all t [] h g = rw (← append-nil (closed true t)) (all_closed true t [] h tt)
  lay_all t (kept c ∷ xs) h g = all_closed false t _ h (all_kept (lacks_pad c && not (is_empty xs)) c (λ u. units u xs) g.0 (λ u k. lay_all u xs k g.1))
  lay_all shut (gap c ∷ xs) h g = all_kept (lacks_pad c && not (is_empty xs)) c (λ u. units u xs) g.0 (λ u k. lay_all u xs k g.1)
  lay_all (begun lead slot now) (gap c ∷ xs) h g = lay_all (begun lead (slot ++ spell c) now) xs h g.1
  lay_all shut (edited old new ∷ xs) h g = lay_all (begun [] (spell_all old) new) xs (tt, g.0) g.1
  lay_all (begun lead slot now) (edited old new ∷ xs) h g = lay_all (begun lead (slot ++ spell_all old) (now ++ new)) xs (h.0, All-both P now new h.1 g.0) g.1

-- ---- the same, with further spans behind

From-append : (low : ℕ) (a b : List Cut) → From low a → From low b → From low (a ++ b)
From-append low [] b h g = g
From-append low (c ∷ a) b h g = h

pub From-low : (low high : ℕ) (cs : List Cut) → low ≤ high → From high cs → From low cs
From-low low high [] h g = tt
From-low low high (c ∷ cs) h g = omega arith

pub lay_splices_more : (fill : Fill) (at : ℕ) (ps : List Piece) (rest : List ℕ) (more : List Cut) → BringsPad ps → From (at + length (flat_map old_bytes ps)) more
    → splice_from at (flat_map old_bytes ps ++ rest) (cuts fill at ps ++ more) ≡ spell_all (lay fill ps) ++ splice_from (at + length (flat_map old_bytes ps)) rest more
lay_splices_more fill at [] rest more h g = let e : at + 0 ≡ at = omega arith in rw e refl
lay_splices_more fill at (copied c ∷ ps) rest more h g =
    let b = flat_map old_bytes ps ++ rest in
    let next = at + length (spell c) in
    let len : next + length (flat_map old_bytes ps) ≡ at + length (spell c ++ flat_map old_bytes ps) = omega (arith, length-append (spell c) (flat_map old_bytes ps)) in
    let one : splice_from at ((spell c ++ flat_map old_bytes ps) ++ rest) (cuts fill next ps ++ more) ≡ splice_from at (spell c ++ b) (cuts fill next ps ++ more)
    = ap (λ (x : List ℕ). splice_from at x (cuts fill next ps ++ more)) (append_assoc (spell c) (flat_map old_bytes ps) rest) in
    let again = lay_splices_more fill next ps rest more h (rw len g) in
    one ∙ splice_past at (spell c) b (cuts fill next ps ++ more) (From-append next (cuts fill next ps) more (cuts_from fill next ps next (omega arith)) (From-low next (at + length (spell c ++ flat_map old_bytes ps)) more (omega (arith, len)) g))
    ∙ ap (λ (x : List ℕ). spell c ++ x) again ∙ sym (append_assoc (spell c) (spell_all (lay fill ps)) _) ∙ ap (λ (k : ℕ). (spell c ++ spell_all (lay fill ps)) ++ splice_from k rest more) len
lay_splices_more fill at (replaced lead slot now last ∷ ps) rest more h g =
    let b = flat_map old_bytes ps ++ rest in
    let l = spell_all lead in
    let c = cut_of fill at lead slot now last in
    let next = at + length (l ++ slot) in
    let f = fill last slot (length (unit_bytes lead now)) in
    let len : next + length (flat_map old_bytes ps) ≡ at + length ((l ++ slot) ++ flat_map old_bytes ps) = omega (arith, length-append (l ++ slot) (flat_map old_bytes ps)) in
    let e1 : c.at - at ≡ length l = omega arith in
    let e2 : end_of c - at ≡ length (l ++ slot) = omega (arith, length-append l slot) in
    let e3 : end_of c ≡ next = omega (arith, length-append l slot) in
    let old : ((l ++ slot) ++ flat_map old_bytes ps) ++ rest ≡ (l ++ slot) ++ b = append_assoc (l ++ slot) (flat_map old_bytes ps) rest in
    let front : take (c.at - at) ((l ++ slot) ++ b) ≡ l = rw (e1, append_assoc l slot b) (take_at l (slot ++ b) (length l) refl) in
    let back : drop (end_of c - at) ((l ++ slot) ++ b) ≡ b = rw e2 (drop_at (l ++ slot) b (length (l ++ slot)) refl) in
    let tail = splice_from (at + length ((l ++ slot) ++ flat_map old_bytes ps)) rest more in
    let again : splice_from (end_of c) b (cuts fill next ps ++ more) ≡ spell_all (lay fill ps) ++ tail = rw (e3, ← len) (lay_splices_more fill next ps rest more h.1 (rw len g)) in
    let new : spell_all (lay fill (replaced lead slot now last ∷ ps)) ≡ (l ++ lead_pad lead) ++ ((spell_all now ++ spell_all f) ++ spell_all (lay fill ps))
    = rw (spell_all-append (map padded lead ++ (now ++ f)) (lay fill ps), spell_all-append (map padded lead) (now ++ f), spell_all-append now f, h.0) (append_assoc (l ++ lead_pad lead) (spell_all now ++ spell_all f) (spell_all (lay fill ps))) in
    rw (old, front, back, again, new) (simp append_assoc)
