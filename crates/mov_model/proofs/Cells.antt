-- The cells of moov: what stood there, and what stands there now but for padding.
use Rattle.std.proofs.Common.{Bool, List, None, Option, Some, [], ap, false, map, refl, subst, sym, true, ℕ, ◌++◌, ◌∙◌, ◌∷◌, ◌≡◌}
use Rattle.std.specs.Prelude.{IfSome, codes, is_some}
use Rattle.std.proofs.lemmas.Bool.{and_parts}
use Rattle.std.specs.List.{AllByRecursion, flat_map, list_any}
use Rattle.part_tree.specs.declared.field.Value.{Value}
use Rattle.carrier_model.proofs.Cells.{Gaps, cells_from, live_from}
use Rattle.carrier_model.proofs.Steps.{live_carried}
use Rattle.carrier_model.specs.Cells.{acted}
use Rattle.carrier_model.specs.Lists.{sets_some}
use Rattle.carrier_model.specs.Steps.{carried, stepped}
use Rattle.container_model.proofs.Items.{same_true}
use Rattle.container_model.proofs.Units.{AllCells, GapsArePadding}
use Rattle.container_model.specs.Atoms.{atom, is}
use Rattle.container_model.specs.Chunk.{Chunk}
use Rattle.container_model.specs.Items.{Item, edit_carrier, put_all}
use Rattle.container_model.specs.Units.{Cell, edited, gap, kept, live, solid, solids, was}
use Rattle.mov_model.specs.Atoms.{cell_by, cell_of, is_padding}
use Rattle.mov_model.specs.Carried.{Changes, fresh, key_step, steps, user_step}
use Rattle.mov_model.specs.Keys.{edit_meta, is_meta, new_meta, new_table, with_keys}
use Rattle.mov_model.specs.Parts.{first_of, track_of}
use Rattle.mov_model.specs.Tables.{relocated}
use Rattle.mov_model.proofs.Carry.{Edits, Fresh, Sort, all_edited, any_relocated, any_solids, carry_is, edited_by, first_of_relocated, first_solids, other_edited, relocated_edited, solids_edited, strip, tracks_edited}
use Rattle.qt_keys.specs.Read.{key_table}
use Rattle.qt_keys.specs.Table.{table_bytes}
use Rattle.qt_text.specs.User.{udta, user_items}

-- ---- cells as they are read

pub was_read : (cs : List Chunk) → flat_map was (map cell_of cs) ≡ cs
was_read [] = refl
was_read (c ∷ cs) = rw (one (is_padding c.id), was_read cs) refl
  where
    one : (t : Bool) → was (cell_by c t) ≡ c ∷ []
    one true = refl
    one false = refl

-- padding, and what holds of it
abbrev pub IsGap : Chunk → Type 0
IsGap c = is_padding c.id ≡ true

gaps_read : (P : Chunk → Type 0) (cs : List Chunk) → AllByRecursion (λ c. IsGap c → P c) cs → Gaps P (map cell_of cs)
gaps_read P [] h = tt
gaps_read P (c ∷ cs) h = one (is_padding c.id) refl (gaps_read P cs h.1)
  where
    one : (t : Bool) → is_padding c.id ≡ t → Gaps P (map cell_of cs) → Gaps P (cell_by c t ∷ map cell_of cs)
    one true e g = (h.0 e, g)
    one false e g = g

any_gap : (cs : List Chunk) → AllByRecursion (λ c. IsGap c → IsGap c) cs
any_gap [] = tt
any_gap (c ∷ cs) = (λ e. e, any_gap cs)

are_gaps : (xs : List Cell) → Gaps IsGap xs → GapsArePadding is_padding xs
are_gaps [] h = tt
are_gaps (kept c ∷ xs) h = are_gaps xs h
are_gaps (gap c ∷ xs) h = (h.0, are_gaps xs h.1)
are_gaps (edited old now ∷ xs) h = are_gaps xs h

all_read : (P : Chunk → Type 0) (cs : List Chunk) → AllByRecursion P cs → AllCells P (map cell_of cs)
all_read P [] h = tt
all_read P (c ∷ cs) h = one (is_padding c.id) (all_read P cs h.1)
  where
    one : (t : Bool) → AllCells P (map cell_of cs) → AllCells P (cell_by c t ∷ map cell_of cs)
    one true g = (h.0, g)
    one false g = (h.0, g)

-- what stands there, but for padding
abbrev pub atoms_now : List Chunk → List Chunk
atoms_now cs = flat_map live (map cell_of cs)

pub solids_now : (cs : List Chunk) → solids is_padding (atoms_now cs) ≡ solids is_padding cs
solids_now [] = refl
solids_now (c ∷ cs) = Rattle.std.proofs.lemmas.List.Concat.flat_map-append (solid is_padding) (live (cell_of c)) (atoms_now cs) ∙ rw (one (is_padding c.id) refl, solids_now cs) refl
  where
    one : (t : Bool) → is_padding c.id ≡ t → solids is_padding (live (cell_by c t)) ≡ solid is_padding c
    one true e = rw e refl
    one false e = Rattle.std.proofs.lemmas.List.append-nil (solid is_padding c)

-- ---- the two carriers

-- the user data
abbrev pub is_user : Chunk → Bool
is_user c = udta.is c

type_of : (c : Chunk) (id : List ℕ) → is c id ≡ true → c.id ≡ id
type_of c id e = same_true c.id id e

pub user_sort : Sort is_user
user_sort = record {
  stripped = λ c. refl;
  no_padding = λ c u. rw (type_of c (codes "udta") u) refl;
  no_track = λ c u. rw (type_of c (codes "udta") u) refl;
}

pub meta_id : (c : Chunk) → is_meta c ≡ true → c.id ≡ codes "meta"
meta_id c e = type_of c (codes "meta") (and_parts (is c (codes "meta")) (is_some (key_table c.body)) e).0

pub meta_sort : Sort is_meta
meta_sort = record {
  stripped = λ c. refl;
  no_padding = λ c u. rw (meta_id c u) refl;
  no_track = λ c u. rw (meta_id c u) refl;
}

pub user_edits : (e : List (Item Value)) → Edits (edit_carrier udta user_items e)
user_edits e = record { same_id = λ c. refl; no_pad = λ c. refl }

pub meta_edits : (e : List (Item (List ℕ))) → Edits (edit_meta e)
meta_edits e = record { same_id = λ c. refl; no_pad = λ c. refl }

pub user_fresh : (items : List Chunk) → IfSome (fresh udta items) Fresh
user_fresh [] = tt
user_fresh (c ∷ cs) = record { solid = refl; no_pad = refl; no_track = refl }

pub meta_fresh : (e : List (Item (List ℕ))) → IfSome (new_meta e) Fresh
meta_fresh e = go (sets_some e)
  where
    go : (t : Bool) → IfSome (Rattle.std.proofs.Common.cond t (Some (atom (codes "meta") (table_bytes (with_keys e new_table)))) None) Fresh
    go true = record { solid = refl; no_pad = refl; no_track = refl }
    go false = tt

-- a carrier of one sort is none of the other
pub user_no_meta : (c : Chunk) → is_user c ≡ true → is_meta c ≡ false
user_no_meta c u = rw (type_of c (codes "udta") u) refl

pub meta_no_user : (c : Chunk) → is_meta c ≡ true → is_user c ≡ false
meta_no_user c u = rw (meta_id c u) refl

-- ---- the atoms after each step

abbrev pub user_edited : List (Item Value) → List Chunk → List Chunk
user_edited [] cs = cs
user_edited (i ∷ e) cs = edited_by is_user (edit_carrier udta user_items (i ∷ e)) (fresh udta (put_all user_items (i ∷ e) [])) cs

abbrev pub keys_edited : List (Item (List ℕ)) → List Chunk → List Chunk
keys_edited [] cs = cs
keys_edited (i ∷ e) cs = edited_by is_meta (edit_meta (i ∷ e)) (new_meta (i ∷ e)) cs

-- the atoms after an edit
abbrev pub edited_chunks : Changes → List Chunk → List Chunk
edited_chunks e cs = keys_edited e.keys (user_edited e.users cs)

user_acted : (e : List (Item Value)) (cs : List Chunk) → acted (user_step e cs) cs ≡ user_edited e cs
user_acted [] cs = refl
user_acted (i ∷ e) cs = carry_is is_user (edit_carrier udta user_items (i ∷ e)) (fresh udta (put_all user_items (i ∷ e) [])) cs

keys_acted : (e : List (Item (List ℕ))) (cs : List Chunk) → acted (key_step e cs) cs ≡ keys_edited e cs
keys_acted [] cs = refl
keys_acted (i ∷ e) cs = carry_is is_meta (edit_meta (i ∷ e)) (new_meta (i ∷ e)) cs

pub stepped_is : (e : Changes) (cs : List Chunk) → stepped (steps e) cs ≡ edited_chunks e cs
stepped_is e cs = ap (λ (ds : List Chunk). acted (key_step e.keys ds) ds) (user_acted e.users cs) ∙ keys_acted e.keys (user_edited e.users cs)

-- ---- the cells after an edit

pub was_carried : (e : Changes) (xs : List Cell) → flat_map was (carried (steps e) xs) ≡ flat_map was xs
was_carried e xs = Rattle.carrier_model.proofs.Steps.was_carried (steps e) xs

pub gaps_carried : (e : Changes) (cs : List Chunk) → GapsArePadding is_padding (carried (steps e) (map cell_of cs))
gaps_carried e cs = are_gaps (carried (steps e) (map cell_of cs)) (Rattle.carrier_model.proofs.Steps.gaps_carried IsGap (steps e) (map cell_of cs) (gaps_read IsGap cs (any_gap cs)))

pub live_edited : (e : Changes) (cs : List Chunk) → flat_map live (carried (steps e) (map cell_of cs)) ≡ edited_chunks e (atoms_now cs)
live_edited e cs = live_carried (steps e) (map cell_of cs) ∙ stepped_is e (atoms_now cs)

-- a property of what was read, and of what is edited or new, is one of all cells
pub all_carried : (P : Chunk → Type 0) (e : Changes) (cs : List Chunk) → AllByRecursion P cs → (AllByRecursion P (atoms_now cs) → AllByRecursion P (edited_chunks e (atoms_now cs))) → AllCells P (carried (steps e) (map cell_of cs))
all_carried P e cs h made =
    cells_from P (carried (steps e) (map cell_of cs)) (Rattle.carrier_model.proofs.Steps.gaps_carried P (steps e) (map cell_of cs) (gaps_read P cs (always cs h)))
    (subst (AllByRecursion P) (sym (live_edited e cs)) (made (live_from P (map cell_of cs) (all_read P cs h))))
  where
    always : (cs : List Chunk) → AllByRecursion P cs → AllByRecursion (λ c. IsGap c → P c) cs
    always [] h = tt
    always (c ∷ cs) h = (λ e. h.0, always cs h.1)

-- ---- each step, for any items

user_solids : (e : List (Item Value)) (cs : List Chunk) → solids is_padding (user_edited e cs) ≡ user_edited e (solids is_padding cs)
user_solids [] cs = refl
user_solids (i ∷ e) cs = solids_edited is_user (edit_carrier udta user_items (i ∷ e)) (fresh udta (put_all user_items (i ∷ e) [])) user_sort (user_edits (i ∷ e)) (user_fresh (put_all user_items (i ∷ e) [])) cs

keys_solids : (e : List (Item (List ℕ))) (cs : List Chunk) → solids is_padding (keys_edited e cs) ≡ keys_edited e (solids is_padding cs)
keys_solids [] cs = refl
keys_solids (i ∷ e) cs = solids_edited is_meta (edit_meta (i ∷ e)) (new_meta (i ∷ e)) meta_sort (meta_edits (i ∷ e)) (meta_fresh (i ∷ e)) cs

-- What stands in moov after an edit, but for padding, is the edit of what stood there.
pub solids_carried : (e : Changes) (cs : List Chunk) → solids is_padding (flat_map live (carried (steps e) (map cell_of cs))) ≡ edited_chunks e (solids is_padding cs)
solids_carried e cs =
    ap (solids is_padding) (live_edited e cs) ∙ keys_solids e.keys (user_edited e.users (atoms_now cs)) ∙ ap (keys_edited e.keys) (user_solids e.users (atoms_now cs))
    ∙ ap (λ (ds : List Chunk). edited_chunks e ds) (solids_now cs)

user_relocated : (f : ℕ → ℕ) (e : List (Item Value)) (cs : List Chunk) → map (relocated f) (user_edited e cs) ≡ user_edited e (map (relocated f) cs)
user_relocated f [] cs = refl
user_relocated f (i ∷ e) cs = relocated_edited is_user (edit_carrier udta user_items (i ∷ e)) (fresh udta (put_all user_items (i ∷ e) [])) user_sort (user_edits (i ∷ e)) (user_fresh (put_all user_items (i ∷ e) [])) f cs

keys_relocated : (f : ℕ → ℕ) (e : List (Item (List ℕ))) (cs : List Chunk) → map (relocated f) (keys_edited e cs) ≡ keys_edited e (map (relocated f) cs)
keys_relocated f [] cs = refl
keys_relocated f (i ∷ e) cs = relocated_edited is_meta (edit_meta (i ∷ e)) (new_meta (i ∷ e)) meta_sort (meta_edits (i ∷ e)) (meta_fresh (i ∷ e)) f cs

-- to relocate and to edit are in either order the same
pub edited_relocated : (f : ℕ → ℕ) (e : Changes) (cs : List Chunk) → map (relocated f) (edited_chunks e cs) ≡ edited_chunks e (map (relocated f) cs)
edited_relocated f e cs = keys_relocated f e.keys (user_edited e.users cs) ∙ ap (keys_edited e.keys) (user_relocated f e.users cs)

user_tracks : (e : List (Item Value)) (cs : List Chunk) → flat_map track_of (user_edited e cs) ≡ flat_map track_of cs
user_tracks [] cs = refl
user_tracks (i ∷ e) cs = tracks_edited is_user (edit_carrier udta user_items (i ∷ e)) (fresh udta (put_all user_items (i ∷ e) [])) user_sort (user_edits (i ∷ e)) (user_fresh (put_all user_items (i ∷ e) [])) cs

keys_tracks : (e : List (Item (List ℕ))) (cs : List Chunk) → flat_map track_of (keys_edited e cs) ≡ flat_map track_of cs
keys_tracks [] cs = refl
keys_tracks (i ∷ e) cs = tracks_edited is_meta (edit_meta (i ∷ e)) (new_meta (i ∷ e)) meta_sort (meta_edits (i ∷ e)) (meta_fresh (i ∷ e)) cs

pub tracks_all : (e : Changes) (cs : List Chunk) → flat_map track_of (edited_chunks e cs) ≡ flat_map track_of cs
tracks_all e cs = keys_tracks e.keys (user_edited e.users cs) ∙ user_tracks e.users cs

-- ---- the first of each sort

module _ (f : ℕ → ℕ) where
  pub first_user_relocated : (cs : List Chunk) → first_of is_user (map (relocated f) cs) ≡ first_of is_user cs
  first_user_relocated cs = first_of_relocated is_user (λ c. c) None user_sort (record { same_id = λ c. refl; no_pad = λ c. refl }) tt f cs

  pub first_meta_relocated : (cs : List Chunk) → first_of is_meta (map (relocated f) cs) ≡ first_of is_meta cs
  first_meta_relocated cs = first_of_relocated is_meta (λ c. c) None meta_sort (record { same_id = λ c. refl; no_pad = λ c. refl }) tt f cs

  pub any_user_relocated : (cs : List Chunk) → list_any is_user (map (relocated f) cs) ≡ list_any is_user cs
  any_user_relocated cs = any_relocated is_user (λ c. c) None user_sort (record { same_id = λ c. refl; no_pad = λ c. refl }) tt f cs

  pub any_meta_relocated : (cs : List Chunk) → list_any is_meta (map (relocated f) cs) ≡ list_any is_meta cs
  any_meta_relocated cs = any_relocated is_meta (λ c. c) None meta_sort (record { same_id = λ c. refl; no_pad = λ c. refl }) tt f cs

-- the edit of the user data leaves the key table
pub user_keeps_meta : (e : List (Item Value)) (cs : List Chunk) → (first_of is_meta (user_edited e cs) ≡ first_of is_meta cs) × (list_any is_meta (user_edited e cs) ≡ list_any is_meta cs)
user_keeps_meta [] cs = (refl, refl)
user_keeps_meta (i ∷ e) cs =
    other_edited is_user (edit_carrier udta user_items (i ∷ e)) (fresh udta (put_all user_items (i ∷ e) [])) is_meta
    (λ c u. (user_no_meta c u, user_no_meta (edit_carrier udta user_items (i ∷ e) c) u)) (none (put_all user_items (i ∷ e) [])) cs
  where
    none : (items : List Chunk) → IfSome (fresh udta items) (λ c. is_meta c ≡ false)
    none [] = tt
    none (c ∷ cs) = refl

-- that of the key table leaves the user data
pub keys_keep_user : (e : List (Item (List ℕ))) (cs : List Chunk) → (first_of is_user (keys_edited e cs) ≡ first_of is_user cs) × (list_any is_user (keys_edited e cs) ≡ list_any is_user cs)
keys_keep_user [] cs = (refl, refl)
keys_keep_user (i ∷ e) cs =
    other_edited is_meta (edit_meta (i ∷ e)) (new_meta (i ∷ e)) is_user (λ c u. (meta_no_user c u, after c u)) (none (sets_some (i ∷ e))) cs
  where
    after : (c : Chunk) → is_meta c ≡ true → is_user (edit_meta (i ∷ e) c) ≡ false
    after c u = rw (meta_id c u) refl

    none : (t : Bool) → IfSome (Rattle.std.proofs.Common.cond t (Some (atom (codes "meta") (table_bytes (with_keys (i ∷ e) new_table)))) None) (λ c. is_user c ≡ false)
    none true = refl
    none false = tt

-- ---- what holds of each atom after an edit

-- what an edited or a new carrier is
pub record Brings (P : Chunk → Type 0) (e : Changes) (cs : List Chunk) : Type 0 where
  pub users : AllByRecursion (λ c. P (edit_carrier udta user_items e.users c)) (first_of is_user cs)
  pub new_user : list_any is_user cs ≡ false → IfSome (fresh udta (put_all user_items e.users [])) P
  pub keys : AllByRecursion (λ c. P (edit_meta e.keys c)) (first_of is_meta cs)
  pub new_keys : list_any is_meta cs ≡ false → IfSome (new_meta e.keys) P

user_all : (P : Chunk → Type 0) (e : List (Item Value)) (cs : List Chunk) → AllByRecursion P cs → AllByRecursion (λ c. P (edit_carrier udta user_items e c)) (first_of is_user cs)
    → (list_any is_user cs ≡ false → IfSome (fresh udta (put_all user_items e [])) P) → AllByRecursion P (user_edited e cs)
user_all P [] cs h w n = h
user_all P (i ∷ e) cs h w n = all_edited is_user (edit_carrier udta user_items (i ∷ e)) (fresh udta (put_all user_items (i ∷ e) [])) P cs h w n

keys_all : (P : Chunk → Type 0) (e : List (Item (List ℕ))) (cs : List Chunk) → AllByRecursion P cs → AllByRecursion (λ c. P (edit_meta e c)) (first_of is_meta cs)
    → (list_any is_meta cs ≡ false → IfSome (new_meta e) P) → AllByRecursion P (keys_edited e cs)
keys_all P [] cs h w n = h
keys_all P (i ∷ e) cs h w n = all_edited is_meta (edit_meta (i ∷ e)) (new_meta (i ∷ e)) P cs h w n

pub all_chunks : (P : Chunk → Type 0) (e : Changes) (cs : List Chunk) → AllByRecursion P cs → Brings P e cs → AllByRecursion P (edited_chunks e cs)
all_chunks P e cs h b =
    let k = user_keeps_meta e.users cs in
    keys_all P e.keys (user_edited e.users cs) (user_all P e.users cs h b.users b.new_user) (subst (AllByRecursion (λ c. P (edit_meta e.keys c))) (sym k.0) b.keys) (λ none. b.new_keys (sym k.1 ∙ none))

-- the sorts among what stands there, but for padding
pub first_now : (is : Chunk → Bool) → Sort is → (cs : List Chunk) → map strip (first_of is (atoms_now cs)) ≡ first_of is (solids is_padding cs)
first_now is s cs = sym (first_solids is s (atoms_now cs)) ∙ ap (first_of is) (solids_now cs)

pub any_now : (is : Chunk → Bool) → Sort is → (cs : List Chunk) → list_any is (atoms_now cs) ≡ list_any is (solids is_padding cs)
any_now is s cs = sym (any_solids is s (atoms_now cs)) ∙ ap (list_any is) (solids_now cs)

-- a change that keeps identifiers and doesn't look at pads
pub solids_map : (g : Chunk → Chunk) → ((c : Chunk) → (g c).id ≡ c.id) → ((c : Chunk) → g (record c { pad = [] }) ≡ record (g c) { pad = [] }) → (cs : List Chunk) → solids is_padding (map g cs) ≡ map g (solids is_padding cs)
solids_map g same_id no_pad [] = refl
solids_map g same_id no_pad (c ∷ cs) = rw (solids_map g same_id no_pad cs) (go (is_padding c.id) (is_padding (g c).id) refl refl)
  where
    go : (t u : Bool) → is_padding c.id ≡ t → is_padding (g c).id ≡ u → Rattle.std.proofs.Common.cond u [] (record (g c) { pad = [] } ∷ []) ++ map g (solids is_padding cs) ≡ map g (Rattle.std.proofs.Common.cond t [] (record c { pad = [] } ∷ []) ++ solids is_padding cs)
    go true true e i = refl
    go false false e i = ap (λ (x : Chunk). x ∷ map g (solids is_padding cs)) (sym (no_pad c))
    go true false e i = let same : is_padding (g c).id ≡ is_padding c.id = ap is_padding (same_id c) in absurd cc
    go false true e i = let same : is_padding (g c).id ≡ is_padding c.id = ap is_padding (same_id c) in absurd cc
