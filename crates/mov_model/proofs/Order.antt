-- The patches of an edit that has room stand in order, and there are three at most.
use Rattle.std.proofs.Common.{◌≡◌, ℕ, suc, ◌+◌, ◌<◌, ◌≤◌, Bool, true, false, cond, eqb, List, [], ◌∷◌, ◌++◌, length, map, refl, sym, ap, subst, ◌∙◌, arith, inl, inr}
use Rattle.std.specs.Prelude.{◌&&◌, not, codes}
use Rattle.std.specs.Int.{w32, w64, to_be_bytes}
use Rattle.std.specs.List.{flat_map, list_any, AllByRecursion}
use Rattle.std.proofs.lemmas.Bool.{and_parts, le-ltb, leb-true}
use Rattle.std.proofs.lemmas.List.{length-append}
use Rattle.me_bytes.specs.Bytes.{IsBytes}
use Rattle.part_tree.specs.declared.field.EditItem.{EditItem}
use Rattle.part_tree.specs.declared.field.Value.{Value}
use Rattle.part_tree.specs.declared.plan.Patch.{Patch}
use Rattle.part_tree.specs.Patches.{InOrder, Touches}
use Rattle.container_model.specs.Chunk.{Form, riff, wide, short, long, to_end, header_bytes, Chunk, spell, spell_all}
use Rattle.container_model.specs.Items.{Item, put_all, edit_carrier}
use Rattle.container_model.specs.Sizes.{inside}
use Rattle.container_model.specs.Units.{Cell, kept, gap, edited, live, lacks_pad, is_empty, kept_next, Piece, copied, replaced, Slot, shut, begun, closed, units, Fill, lay}
use Rattle.container_model.proofs.Read.{Atom, AtomForm}
use Rattle.mov_model.specs.Atoms.{cell_by, cell_of, is_padding}
use Rattle.qt_text.specs.User.{user_items, udta}
use Rattle.carrier_model.specs.Cells.{acted_cells, behind, changed_cell, count_all, insert_cell, leave, never, new_cell, only_gaps, settle_cells}
use Rattle.carrier_model.specs.Steps.{carried}
use Rattle.mov_model.specs.Carried.{Changes, carry, carry_by, first_becomes, fresh, key_step, steps, user_step}
use Rattle.mov_model.specs.Keys.{edit_meta, is_meta, new_meta}
use Rattle.mov_model.proofs.Carry.{none_meets}
use Rattle.mov_model.proofs.Cells.{is_user}
use Rattle.std.proofs.Common.{None, Option, Some, zero}
use Rattle.mov_model.specs.Movie.{Movie, movie_of}
use Rattle.mov_model.specs.New.{fill, gaps_of, grown, pieces_of, is_open, whole_pieces, ends_file, kids_at, new_movie}
use Rattle.mov_model.specs.Support.{Readable}
use Rattle.mov_model.specs.Edited.{changes, new_file}
use Rattle.part_tree.specs.Order.{SoundPatches}
use Rattle.carrier_model.specs.Room.{patch, unit_patch, unit_patches}
use Rattle.carrier_model.proofs.Patches.{one_patch, order_low, order_patch, touches_behind}
use Rattle.carrier_model.proofs.Fitted.{fitting_length, units_cover, units_in_order}
use Rattle.mov_model.specs.Room.{units_fit, size_patch, moov_patch, patches, Room}
use Rattle.mov_model.proofs.Again.{kids, kids_read}
use Rattle.mov_model.proofs.Clauses.{header_len, whole_brings}
use Rattle.mov_model.proofs.InPlace.{behind as rest_of, fit, moov_form, new_is, none_behind, old_len, only_last}

-- ---- two units at most

abbrev pub units_in : List Piece → ℕ
units_in [] = 0
units_in (copied c ∷ ps) = units_in ps
units_in (replaced lead slot now last ∷ ps) = suc (units_in ps)

abbrev edited_in : List Cell → ℕ
edited_in [] = 0
edited_in (kept c ∷ xs) = edited_in xs
edited_in (gap c ∷ xs) = edited_in xs
edited_in (edited old now ∷ xs) = suc (edited_in xs)

abbrev begun_in : Slot → ℕ
begun_in shut = 0
begun_in (begun lead slot now) = 1

-- each chunk of the cells has its pad
abbrev Padded : List Cell → Type 0
Padded [] = Unit {0}
Padded (kept c ∷ xs) = (lacks_pad c ≡ false) × Padded xs
Padded (gap c ∷ xs) = (lacks_pad c ≡ false) × Padded xs
Padded (edited old now ∷ xs) = Padded xs

units_both : (a b : List Piece) → units_in (a ++ b) ≡ units_in a + units_in b
units_both [] b = omega arith
units_both (copied c ∷ a) b = units_both a b
units_both (replaced lead slot now last ∷ a) b = omega (arith, units_both a b)

closed_in : (last : Bool) (s : Slot) → units_in (closed last s) ≡ begun_in s
closed_in last shut = refl
closed_in last (begun lead slot now) = refl

next_in : (t end : Bool) (c : Chunk) (more : Slot → List Piece) → t ≡ false → units_in (kept_next (t && end) c more) ≡ units_in (more shut)
next_in true end c more e = absurd cc
next_in false end c more e = refl

few_units : (s : Slot) (xs : List Cell) → Padded xs → units_in (units s xs) ≤ begun_in s + edited_in xs
unfolding units
few_units s [] h = omega (arith, closed_in true s)
few_units s (kept c ∷ xs) h =
    omega (arith, units_both (closed false s) (kept_next (lacks_pad c && not (is_empty xs)) c (λ t. units t xs)), closed_in false s, next_in (lacks_pad c) (not (is_empty xs)) c (λ t. units t xs) h.0, few_units shut xs h.1)
few_units shut (gap c ∷ xs) h = omega (arith, next_in (lacks_pad c) (not (is_empty xs)) c (λ t. units t xs) h.0, few_units shut xs h.1)
few_units (begun lead slot now) (gap c ∷ xs) h = few_units (begun lead (slot ++ spell c) now) xs h.1
few_units shut (edited old new ∷ xs) h = omega (arith, few_units (begun [] (spell_all old) new) xs h)
few_units (begun lead slot now) (edited old new ∷ xs) h = omega (arith, few_units (begun lead (slot ++ spell_all old) (now ++ new)) xs h)

read_cells : (cs : List Chunk) → AllByRecursion (Atom inside) cs → Padded (map cell_of cs) × (edited_in (map cell_of cs) ≡ 0)
read_cells [] h = (tt, refl)
read_cells (c ∷ cs) h = go (is_padding c.id) (read_cells cs h.1)
  where
    has : lacks_pad c ≡ false
    has = le-ltb _ _ (omega (arith, h.0.pad_none))

    go : (t : Bool) → Padded (map cell_of cs) × (edited_in (map cell_of cs) ≡ 0) → Padded (cell_by c t ∷ map cell_of cs) × (edited_in (cell_by c t ∷ map cell_of cs) ≡ 0)
    go true r = ((has, r.0), r.1)
    go false r = ((has, r.0), r.1)

-- ---- each step edits one cell more at most

-- how many carriers may still be edited, where so many were met
budget : ℕ → ℕ
budget zero = 1
budget (suc n) = 0

module _ (sort : Chunk → Bool) (g : Chunk → Chunk) where
  budget_less : (n : ℕ) (now : List Chunk) → budget (count_all sort n now) ≤ budget n
  unfolding budget
  budget_less n [] = omega arith
  budget_less n (c ∷ now) = go (sort c) n (budget_less n now) (budget_less (suc n) now)
    where
      go : (t : Bool) (n : ℕ) → budget (count_all sort n now) ≤ budget n → budget (count_all sort (suc n) now) ≤ budget (suc n) → budget (count_all sort (cond t (suc n) n) now) ≤ budget n
      go true n a b = omega (arith, b)
      go false n a b = a

  settle_few : (n : ℕ) (xs : List Cell) → Padded xs → Padded (settle_cells sort (first_becomes g) n xs) × (edited_in (settle_cells sort (first_becomes g) n xs) ≤ budget n + edited_in xs)
  unfolding budget
  settle_few n [] h = (tt, omega arith)
  settle_few n (gap c ∷ xs) h = let r = settle_few n xs h.1 in ((h.0, r.0), r.1)
  settle_few n (edited old now ∷ xs) h = let r = settle_few (count_all sort n now) xs h in (r.0, omega (arith, r.1, budget_less n now))
  settle_few n (kept c ∷ xs) h = go (sort c) n (λ m. settle_few m xs h.1)
    where
      go : (t : Bool) (n : ℕ) → ((m : ℕ) → Padded (settle_cells sort (first_becomes g) m xs) × (edited_in (settle_cells sort (first_becomes g) m xs) ≤ budget m + edited_in xs))
          → Padded (changed_cell (cond t (first_becomes g n c) leave) c ∷ settle_cells sort (first_becomes g) (cond t (suc n) n) xs) × (edited_in (changed_cell (cond t (first_becomes g n c) leave) c ∷ settle_cells sort (first_becomes g) (cond t (suc n) n) xs) ≤ budget n + edited_in xs)
      go true zero again = let r = again 1 in (r.0, omega (arith, r.1))
      go true (suc n) again = let r = again (suc (suc n)) in ((h.0, r.0), omega (arith, r.1))
      go false n again = let r = again n in ((h.0, r.0), r.1)

insert_few : (c : Chunk) (xs : List Cell) → Padded xs → Padded (insert_cell behind never c xs) × (edited_in (insert_cell behind never c xs) ≤ suc (edited_in xs))
insert_few c [] h = (tt, omega arith)
insert_few c (kept d ∷ xs) h = let r = insert_few c xs h.1 in ((h.0, r.0), r.1)
insert_few c (gap d ∷ xs) h = go (only_gaps xs) (insert_few c xs h.1)
  where
    go : (t : Bool) → Padded (insert_cell behind never c xs) × (edited_in (insert_cell behind never c xs) ≤ suc (edited_in xs))
        → Padded (cond t (new_cell c ∷ (gap d ∷ xs)) (gap d ∷ insert_cell behind never c xs)) × (edited_in (cond t (new_cell c ∷ (gap d ∷ xs)) (gap d ∷ insert_cell behind never c xs)) ≤ suc (edited_in xs))
    go true r = (h, omega arith)
    go false r = ((h.0, r.0), r.1)
insert_few c (edited old now ∷ xs) h = let r = insert_few c xs h in rw (none_meets now) (r.0, omega (arith, r.1))

carry_few : (sort : Chunk → Bool) (g : Chunk → Chunk) (new : Option Chunk) (xs : List Cell) → Padded xs → Padded (acted_cells (carry sort g new (flat_map live xs)) xs) × (edited_in (acted_cells (carry sort g new (flat_map live xs)) xs) ≤ suc (edited_in xs))
unfolding budget
carry_few sort g new xs h = go (list_any sort (flat_map live xs)) new
  where
    go : (t : Bool) (m : Option Chunk) → Padded (acted_cells (carry_by sort g m t) xs) × (edited_in (acted_cells (carry_by sort g m t) xs) ≤ suc (edited_in xs))
    go true m = let r = settle_few sort g 0 xs h in (r.0, omega (arith, r.1))
    go false None = (h, omega arith)
    go false (Some c) = insert_few c xs h

user_few : (e : List (Item Value)) (xs : List Cell) → Padded xs → Padded (acted_cells (user_step e (flat_map live xs)) xs) × (edited_in (acted_cells (user_step e (flat_map live xs)) xs) ≤ suc (edited_in xs))
user_few [] xs h = (h, omega arith)
user_few (i ∷ e) xs h = carry_few is_user (edit_carrier udta user_items (i ∷ e)) (fresh udta (put_all user_items (i ∷ e) [])) xs h

keys_few : (e : List (Item (List ℕ))) (xs : List Cell) → Padded xs → Padded (acted_cells (key_step e (flat_map live xs)) xs) × (edited_in (acted_cells (key_step e (flat_map live xs)) xs) ≤ suc (edited_in xs))
keys_few [] xs h = (h, omega arith)
keys_few (i ∷ e) xs h = carry_few is_meta (edit_meta (i ∷ e)) (new_meta (i ∷ e)) xs h

carried_two : (e : Changes) (xs : List Cell) → Padded xs → Padded (carried (steps e) xs) × (edited_in (carried (steps e) xs) ≤ 2 + edited_in xs)
carried_two e xs h =
    let mid = acted_cells (user_step e.users (flat_map live xs)) xs in
    let a = user_few e.users xs h in
    let b = keys_few e.keys mid a.0 in
    (b.0, omega (arith, a.1, b.1))

grown_in : (more : List ℕ) (ps : List Piece) → units_in (grown more ps) ≡ units_in ps
grown_in more [] = refl
grown_in more (copied c ∷ ps) = grown_in more ps
grown_in more (replaced lead slot now true ∷ ps) = refl
grown_in more (replaced lead slot now false ∷ ps) = ap suc (grown_in more ps)

patches_many : (f : Fill) (at : ℕ) (ps : List Piece) → length (unit_patches f at ps) ≤ units_in ps
patches_many f at [] = omega arith
patches_many f at (copied c ∷ ps) = patches_many f (at + length (spell c)) ps
patches_many f at (replaced lead slot now last ∷ ps) =
    let here = at + length (spell_all lead) in
    let w = unit_patch f lead slot now last in
    let next = unit_patches f (at + length (spell_all lead ++ slot)) ps in
    omega (arith, patches_many f (at + length (spell_all lead ++ slot)) ps, one_patch here w, length-append (patch here w) next)

-- ---- the patch of the size

-- the patch of the size stands in the header of moov
size_stands : (form : Form) (at n new head : ℕ) (us : List Patch) → AtomForm form → head ≡ at + length (header_bytes form (codes "moov") n) → head ≤ new → InOrder new head us → InOrder new 0 (size_patch form at n ++ us)
size_stands form at n new head us (inl e) h le f = subst (λ (g : Form). InOrder new 0 (size_patch g at n ++ us)) (sym e) (short_one (h ∙ ap (λ (g : Form). at + length (header_bytes g (codes "moov") n)) e))
  where
    short_one : head ≡ at + 8 → InOrder new 0 (size_patch short at n ++ us)
    short_one z = let fits : at + 4 ≤ new = omega (arith, z, le) in order_patch new 0 at (to_be_bytes w32 (n + 8)) us (omega arith) fits (order_low new (at + 4) head us (omega (arith, z)) f)
size_stands form at n new head us (inr (inl e)) h le f = subst (λ (g : Form). InOrder new 0 (size_patch g at n ++ us)) (sym e) (long_one (h ∙ ap (λ (g : Form). at + length (header_bytes g (codes "moov") n)) e))
  where
    long_one : head ≡ at + 16 → InOrder new 0 (size_patch long at n ++ us)
    long_one z = let fits : (at + 8) + 8 ≤ new = omega (arith, z, le) in order_patch new 0 (at + 8) (to_be_bytes w64 (n + 16)) us (omega arith) fits (order_low new ((at + 8) + 8) head us (omega (arith, z)) f)
size_stands form at n new head us (inr (inr e)) h le f = subst (λ (g : Form). InOrder new 0 (size_patch g at n ++ us)) (sym e) (order_low new 0 head us (omega arith) f)

one_size : (form : Form) (at n : ℕ) → length (size_patch form at n) ≤ 1
one_size riff at n = omega arith
one_size wide at n = omega arith
one_size short at n = one_patch at (to_be_bytes w32 (n + 8))
one_size long at n = one_patch (at + 8) (to_be_bytes w64 (n + 16))
one_size to_end at n = omega arith

-- ---- of a supported file

module _ (o : List ℕ) (e : List EditItem) (bytes : IsBytes o) (sup : Readable o) where
  abbrev m : Movie
  m = movie_of o

  abbrev c : Changes
  c = changes o e

  abbrev ps : List Piece
  ps = whole_pieces m c

  abbrev ends : Bool
  ends = ends_file m c

  abbrev size : ℕ
  size = length (new_movie m c).movie.body

  abbrev us : List Patch
  us = unit_patches (fill ends) (kids_at m c) ps

  moov_one : length (moov_patch m size) ≤ 1
  moov_one = go (eqb size (length m.movie.body))
    where
      go : (t : Bool) → length (cond t [] (size_patch m.movie.form (length (spell_all m.before)) size)) ≤ 1
      go true = omega arith
      go false = one_size m.movie.form (length (spell_all m.before)) size

  two_units : units_in ps ≤ 2
  two_units =
      let cells = map cell_of (kids o bytes sup) in
      let r = read_cells (kids o bytes sup) (kids_read o bytes sup).0 in
      let k = carried_two c cells r.0 in
      let few = few_units shut (carried (steps c) cells) k.0 in
      go (is_open m c) (omega (arith, few, k.1, r.1))
    where
      go : (t : Bool) → units_in (pieces_of m c) ≤ 2 → units_in (cond t (grown (spell_all (gaps_of m.behind)) (pieces_of m c)) (pieces_of m c)) ≤ 2
      go true h = omega (arith, h, grown_in (spell_all (gaps_of m.behind)) (pieces_of m c))
      go false h = h

  -- The size of moov and two units are three at most.
  pub patches_three : length (patches o e) ≤ 3
  patches_three = omega (arith, length-append (moov_patch m size) us, moov_one, patches_many (fill ends) (kids_at m c) ps, two_units)

  module _ (room : Room o e) where
    abbrev rest : ℕ
    rest = length (rest_of o e bytes sup room)

    new_len : length (new_file o e) ≡ kids_at m c + (length (spell_all (lay (fill ends) ps)) + rest)
    new_len =
        let b = spell_all m.before in
        let head = header_bytes m.movie.form m.movie.id size in
        let y = spell_all (lay (fill ends) ps) in
        omega (arith, ap length (new_is o e bytes sup room), length-append (b ++ head) (y ++ rest_of o e bytes sup room), length-append b head, length-append y (rest_of o e bytes sup room), header_len m.movie.form m.movie.id (length m.movie.body) size)

    head_at : kids_at m c ≡ length (spell_all m.before) + length (header_bytes m.movie.form (codes "moov") size)
    head_at = omega (arith, header_len m.movie.form m.movie.id (length m.movie.body) size, ap (λ (i : List ℕ). length (header_bytes m.movie.form i size)) sup.movie.is_moov)

    ordered : InOrder (length (new_file o e)) 0 (patches o e)
    ordered = go (eqb size (length m.movie.body))
      where
        units : InOrder (length (new_file o e)) (kids_at m c) us
        units = units_in_order (fill ends) ends (length (new_file o e)) (kids_at m c) (kids_at m c) ps (omega arith) (omega (arith, new_len)) (only_last o e bytes sup room) (whole_brings m c) (fit o e bytes sup room)

        go : (t : Bool) → InOrder (length (new_file o e)) 0 (cond t [] (size_patch m.movie.form (length (spell_all m.before)) size) ++ us)
        go true = order_low (length (new_file o e)) 0 (kids_at m c) us (omega arith) units
        go false = size_stands m.movie.form (length (spell_all m.before)) size (length (new_file o e)) (kids_at m c) us (moov_form o e bytes sup room) head_at (omega (arith, new_len)) units

    covered : (q : ℕ) → length o ≤ q → q < length (new_file o e) → Touches q (patches o e)
    covered q low high = go ends refl
      where
        go : (t : Bool) → ends ≡ t → Touches q (patches o e)
        go true t =
            let none : rest ≡ 0 = ap length (none_behind o e bytes sup room t) in
            touches_behind q (moov_patch m size) us
            (units_cover (fill ends) ends (kids_at m c) ps q (only_last o e bytes sup room) (whole_brings m c) (fit o e bytes sup room) (omega (arith, low, old_len o e bytes sup room, none)) (omega (arith, high, new_len, none)))
        go false t =
            let len = fitting_length (fill ends) ends t ps (whole_brings m c) (fit o e bytes sup room) in
            absurd (omega (arith, len, low, high, old_len o e bytes sup room, new_len))

    pub patches_sound : SoundPatches (length o) (length (new_file o e)) (patches o e)
    patches_sound = record { in_order = ordered; few_bytes = leb-true _ _ (and_parts (units_fit ends ps) _ room).1; cover = covered }
