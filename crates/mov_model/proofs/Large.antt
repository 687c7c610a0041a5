-- What is not too large fits.
use Rattle.std.proofs.Common.{Bool, List, None, Option, Some, [], ap, arith, cond, false, length, map, refl, subst, sym, true, ℕ, ◌++◌, ◌<◌, ◌^◌, ◌∷◌, ◌≡◌, ◌≤◌}
use Rattle.std.specs.Prelude.{IfSome, codes}
use Rattle.std.proofs.lemmas.Bool.{ltb-false}
use Rattle.std.specs.Prelude.{◌⊎◌, ◌-◌}
use Rattle.std.proofs.Common.{inl, inr}
use Rattle.std.specs.List.{AllByRecursion, flat_map, list_any}
use Rattle.container_model.proofs.Codec.{IsBytes}
use Rattle.container_model.proofs.Items.{same_true}
use Rattle.container_model.specs.Chunk.{Chunk}
use Rattle.container_model.specs.Items.{edit_carrier, listed, put_all}
use Rattle.container_model.specs.Rows.{be32, be64}
use Rattle.container_model.specs.Splice.{shift}
use Rattle.mov_model.proofs.Cells.{is_user}
use Rattle.mov_model.proofs.Edited.{edited_law, new_nothing, none_done}
use Rattle.mov_model.proofs.Parts.{placed_nothing}
use Rattle.container_model.specs.Atoms.{is}
use Rattle.mov_model.proofs.Fits.{CanSet, EditedBy, Fits, SmallBody}
use Rattle.mov_model.specs.Kept.{Node, kept}
use Rattle.mov_model.specs.Large.{all_sizes, body_size, key_sizes, row_sizes, table_sizes, user_sizes}
use Rattle.part_tree.specs.Large.{Size, limited, is_above, first_above}
use Rattle.mov_model.specs.Carried.{Changes, fresh}
use Rattle.mov_model.specs.Keys.{edit_meta, is_meta, new_meta}
use Rattle.mov_model.specs.Movie.{Movie, movie_of}
use Rattle.mov_model.specs.New.{edit_cuts, edited_file}
use Rattle.mov_model.specs.Parts.{first_of, parts, tracks}
use Rattle.mov_model.specs.Support.{Supported}
use Rattle.mov_model.specs.Tables.{tables}
use Rattle.sample_tables.specs.Tables.{FitsRows, rows}
use Rattle.qt_text.specs.User.{udta, user_items}

abbrev pub Within : List Size → Type 0
Within ss = AllByRecursion (λ (s : Size). s.size ≤ s.limit) ss

pub within : (ss : List Size) → first_above ss ≡ None → Within ss
within [] e = tt
within (s ∷ ss) e = go (is_above s) refl e (within ss)
  where
    go : (t : Bool) → is_above s ≡ t → cond t (Some s) (first_above ss) ≡ None → (first_above ss ≡ None → Within ss) → (s.size ≤ s.limit) × Within ss
    go true p e again = absurd cc
    go false p e again = (ltb-false _ _ p, again e)

pub within_both : (a b : List Size) → Within (a ++ b) → Within a × Within b
within_both [] b h = (tt, h)
within_both (s ∷ a) b h = let r = within_both a b h.1 in ((h.0, r.0), r.1)

pub within_map : {X : Type 0} (f : X → Size) (xs : List X) → Within (map f xs) → AllByRecursion (λ x. (f x).size ≤ (f x).limit) xs
within_map f [] h = tt
within_map f (x ∷ xs) h = (h.0, within_map f xs h.1)

pub within_flat : {X : Type 0} (f : X → List Size) (xs : List X) → Within (flat_map f xs) → AllByRecursion (λ x. Within (f x)) xs
within_flat f [] h = tt
within_flat f (x ∷ xs) h = let r = within_both (f x) (flat_map f xs) h in (r.0, within_flat f xs r.1)

below : (f : ℕ → ℕ) (limit bound : ℕ) → ((n : ℕ) → n ≤ limit → n < bound) → (ps : List ℕ) → AllByRecursion (λ p. f p ≤ limit) ps → AllByRecursion (λ p. f p < bound) ps
below f limit bound w [] h = tt
below f limit bound w (p ∷ ps) h = (w (f p) h.0, below f limit bound w ps h.1)

row_fits : (f : ℕ → ℕ) (c : Chunk) → Within (row_sizes f c) → FitsRows f c
row_fits f c h = (four_fits, eight_fits)
  where
    four_fits : is c (codes "stco") ≡ true → AllByRecursion (λ p. f p < 2 ^ 32) (rows be32 c)
    four_fits e =
        let one : row_sizes f c ≡ map (λ p. limited 4294967295 (f p)) (rows be32 c) = rw e refl in
        below f 4294967295 (2 ^ 32) (λ n le. omega arith) (rows be32 c) (within_map (λ p. limited 4294967295 (f p)) (rows be32 c) (rw one at h))

    eight_fits : is c (codes "co64") ≡ true → AllByRecursion (λ p. f p < 2 ^ 64) (rows be64 c)
    eight_fits e =
        let no : is c (codes "stco") ≡ false = rw (same_true c.id (codes "co64") e) refl in
        let one : row_sizes f c ≡ map (λ p. limited 18446744073709551615 (f p)) (rows be64 c) = rw (no, e) refl in
        below f 18446744073709551615 (2 ^ 64) (λ n le. omega arith) (rows be64 c) (within_map (λ p. limited 18446744073709551615 (f p)) (rows be64 c) (rw one at h))

rows_fit : (f : ℕ → ℕ) (cs : List Chunk) → AllByRecursion (λ c. Within (row_sizes f c)) cs → AllByRecursion (FitsRows f) cs
rows_fit f [] h = tt
rows_fit f (c ∷ cs) h = (row_fits f c h.0, rows_fit f cs h.1)

pub tracks_fit : (f : ℕ → ℕ) (ts : List Chunk) → AllByRecursion (λ (t : Chunk). Within (flat_map (row_sizes f) (tables t))) ts → AllByRecursion (λ t. AllByRecursion (FitsRows f) (tables t)) ts
tracks_fit f [] h = tt
tracks_fit f (t ∷ ts) h = (rows_fit f (tables t) (within_flat (row_sizes f) (tables t) h.0), tracks_fit f ts h.1)

if_within : (m : Option Chunk) → Within (map body_size (listed m)) → IfSome m SmallBody
if_within None h = tt
if_within (Some c) h = h.0

-- a carrier that is edited or new
pub carrier_fits : (sort : Chunk → Bool) (g : Chunk → Chunk) (new : Option Chunk) (cs : List Chunk) → Within (map (λ c. body_size (g c)) (first_of sort cs) ++ cond (list_any sort cs) [] (map body_size (listed new)))
    → AllByRecursion (λ c. SmallBody (g c)) (first_of sort cs) × (list_any sort cs ≡ false → IfSome new SmallBody)
carrier_fits sort g new cs h =
    let u = within_both (map (λ c. body_size (g c)) (first_of sort cs)) _ h in
    (within_map (λ c. body_size (g c)) (first_of sort cs) u.0, λ n. if_within new (let one : cond (list_any sort cs) [] (map body_size (listed new)) ≡ map body_size (listed new) = rw n refl in rw one at u.1))

pub fits_of : (m : Movie) (e : Changes) → first_above (all_sizes m e) ≡ None → Fits m e
fits_of m e none =
    let all = within (all_sizes m e) none in
    let a = within_both (user_sizes m e.users) _ all in
    let b = within_both (key_sizes m e.keys) _ a.1 in
    let t = within_both (table_sizes m e) _ b.1.1.1 in
    let u = carrier_fits is_user (edit_carrier udta user_items e.users) (fresh udta (put_all user_items e.users [])) (parts m) a.0 in
    let k = carrier_fits is_meta (edit_meta e.keys) (new_meta e.keys) (parts m) b.0 in
    record {
      user_small = u.0;
      fresh_small = u.1;
      keys_small = k.0;
      new_keys_small = k.1;
      movie_small = b.1.1.0;
      rows = tracks_fit (shift (edit_cuts m e)) (tracks m) (within_flat (λ (t : Chunk). flat_map (row_sizes (shift (edit_cuts m e))) (tables t)) (tracks m) t.0);
      few_parts = b.1.0;
    }

-- nothing is done without an item
pub edited_nothing : (o : List ℕ) → Supported o → EditedBy o none_done o
edited_nothing o sup =
    record {
      supported = sup;
      users_back = λ name. refl;
      keys_back = λ name. refl;
      kept_in_order = ap (λ (ns : List Node). record (kept o) { inside = ns }) (sym (placed_nothing (parts (movie_of o))));
      same_pieces = refl;
    }

-- The law, where there is no change or nothing is too large.
pub whole_law : (o : List ℕ) (e : Changes) → IsBytes o → Supported o → CanSet e → (e ≡ none_done) ⊎ (first_above (all_sizes (movie_of o) e) ≡ None) → EditedBy o e (edited_file o e)
whole_law o e bytes sup can (inl i) = subst (λ (x : Changes). EditedBy o x (edited_file o x)) (sym i) (subst (EditedBy o none_done) (sym (new_nothing o bytes sup.readable)) (edited_nothing o sup))
whole_law o e bytes sup can (inr none) = edited_law o e bytes sup.readable can (fits_of (movie_of o) e none)

-- The new file has a length that can be told.
pub length_law : (o : List ℕ) (e : Changes) → first_above (all_sizes (movie_of o) e) ≡ None → length (edited_file o e) ≤ 2 ^ 63 - 1
unfolding edited_file
length_law o e none =
    let m = movie_of o in
    let all = within (all_sizes m e) none in
    let a = within_both (user_sizes m e.users) _ all in
    let b = within_both (key_sizes m e.keys) _ a.1 in
    let t = within_both (table_sizes m e) _ b.1.1.1 in
    omega (arith, t.1.0)
