-- What follows where nothing is too large.
use Rattle.std.proofs.Common.{◌≡◌, ℕ, ◌≤◌, Bool, true, false, cond, ltb, List, [], ◌∷◌, ◌++◌, length, map, None, refl, inl, inr}
use Rattle.std.specs.Prelude.{◌⊎◌}
use Rattle.std.specs.List.{flat_map, AllByRecursion}
use Rattle.std.proofs.lemmas.Bool.{ltb-false}
use Rattle.container_model.specs.Splice.{shift}
use Rattle.container_model.specs.Stood.{Stood}
use Rattle.avi_model.specs.Avi.{Avi, avi_of, inner, spell_avi}
use Rattle.container_model.specs.Tables.{Table}
use Rattle.avi_model.specs.Index.{base, indexes, olds}
use Rattle.avi_model.specs.Support.{infos, parts, part_limit, list_limit}
use Rattle.avi_model.specs.NewFile.{Items, edit_cuts, laid_file, edited_file}
use Rattle.avi_model.specs.Large.{Check, at_most, limit32, index_checks, old_checks, Placed, put_placed, by_place, tables_placed, new_avi, checks_of, all_checks}
use Rattle.container_model.specs.Tests.{first}
use Rattle.container_model.proofs.Tests.{AllFalse, first_none}
use Rattle.avi_model.proofs.Among.{Among, all_among, among_all, among_front, among_back, flat_among, map_among}

abbrev pub Passes : List Check → Type 0
Passes cs = AllFalse cs

-- the sizes and numbers of the new parts and the new file, where places move, are small enough
pub record FitsBy (n : Avi) (f : ℕ → ℕ) (o new : List ℕ) : Type 0 where
  pub lists_short : AllByRecursion (λ x. length x.chunk.body ≤ list_limit) (infos n)
  pub few_parts : parts n ≤ part_limit
  pub form_short : length (inner n.children n.left) ≤ limit32
  pub entries_fit : AllByRecursion (λ t. Passes (index_checks f t)) (indexes o)
  pub rows_fit : AllByRecursion (λ t. Passes (old_checks f (base o) t)) (olds o)
  pub file_short : length new ≤ 9223372036854775807

abbrev pub Fits : List ℕ → Items → Type 0
Fits o e = FitsBy (new_avi o e) (shift (edit_cuts (avi_of o) e)) o (spell_avi (new_avi o e))

among_put : (t u : Placed) (us : List Placed) → (u ≡ t) ⊎ Among t us → Among t (put_placed u us)
among_put t u [] (inl e) = inl e
among_put t u [] (inr i) = absurd i
among_put t u (v ∷ us) h = go (ltb u.at v.at) h (λ g. among_put t u us g)
  where
    go : (b : Bool) → (u ≡ t) ⊎ Among t (v ∷ us) → ((u ≡ t) ⊎ Among t us → Among t (put_placed u us)) → Among t (cond b (u ∷ (v ∷ us)) (v ∷ put_placed u us))
    go true h again = h
    go false (inl e) again = inr (again (inl e))
    go false (inr (inl e)) again = inl e
    go false (inr (inr i)) again = inr (again (inr i))

among_sorted : (t : Placed) (ts : List Placed) → Among t ts → Among t (by_place ts)
among_sorted t [] i = i
among_sorted t (u ∷ us) (inl e) = among_put t u (by_place us) (inl e)
among_sorted t (u ∷ us) (inr i) = among_put t u (by_place us) (inr (among_sorted t us i))

-- ---- where no check fails

module _ (n : Avi) (count : ℕ) (f : ℕ → ℕ) (o new : List ℕ) (none : first (checks_of n count f o new) ≡ None) where
  abbrev lists : List Check
  lists = map (λ (x : Stood). at_most list_limit (length x.chunk.body)) (infos n)

  abbrev tables : List Check
  tables = flat_map (λ (t : Placed). t.checks) (by_place (tables_placed f o))

  abbrev last : Check
  last = at_most 9223372036854775807 (length new)

  abbrev rest : List Check
  rest = at_most part_limit count ∷ (at_most limit32 (length (inner n.children n.left)) ∷ (tables ++ last ∷ []))

  is : (c : Check) → Among c (checks_of n count f o new) → c.0 ≡ false
  is c j = among_all (λ c. c.0 ≡ false) (checks_of n count f o new) (first_none (checks_of n count f o new) none) c j

  back : (c : Check) → Among c (at_most part_limit count ∷ (at_most limit32 (length (inner n.children n.left)) ∷ (flat_map (λ (t : Placed). t.checks) (by_place (tables_placed f o)) ++ at_most 9223372036854775807 (length new) ∷ []))) → c.0 ≡ false
  back c j = is c (among_back lists rest c j)

  table : (p : Placed) → Among p (tables_placed f o) → Passes p.checks
  table p j = all_among (λ (c : Check). c.0 ≡ false) p.checks (λ c k. back c (inr (inr (among_front tables (last ∷ []) c (flat_among (λ (t : Placed). t.checks) (by_place (tables_placed f o)) p c (among_sorted p (tables_placed f o) j) k)))))

  -- the parts that are counted, the first form, and the file
  pub few_counted : count ≤ part_limit
  few_counted = ltb-false part_limit count (back (at_most part_limit count) (inl refl))

  pub form_fits : length (inner n.children n.left) ≤ limit32
  form_fits = ltb-false limit32 (length (inner n.children n.left)) (back (at_most limit32 (length (inner n.children n.left))) (inr (inl refl)))

  pub length_fits : length new ≤ 9223372036854775807
  length_fits = ltb-false 9223372036854775807 (length new) (back last (inr (inr (among_back tables (last ∷ []) last (inl refl)))))

  -- each size and each number
  pub checks_fit : parts n ≤ part_limit → FitsBy n f o new
  checks_fit few = record {
    lists_short = all_among (λ x. length x.chunk.body ≤ list_limit) (infos n) (λ x j. ltb-false list_limit (length x.chunk.body) (is (at_most list_limit (length x.chunk.body)) (among_front lists rest _ (map_among (λ (x : Stood). at_most list_limit (length x.chunk.body)) (infos n) x j))));
    few_parts = few;
    form_short = form_fits;
    entries_fit = all_among (λ t. Passes (index_checks f t)) (indexes o) (λ t j. table (record { at = t.at; checks = index_checks f t }) (among_front (map (λ (t : Table). record { at = t.at; checks = index_checks f t }) (indexes o)) (map (λ (t : Table). record { at = t.at; checks = old_checks f (base o) t }) (olds o)) _ (map_among (λ (t : Table). record { at = t.at; checks = index_checks f t }) (indexes o) t j)));
    rows_fit = all_among (λ t. Passes (old_checks f (base o) t)) (olds o) (λ t j. table (record { at = t.at; checks = old_checks f (base o) t }) (among_back (map (λ (t : Table). record { at = t.at; checks = index_checks f t }) (indexes o)) (map (λ (t : Table). record { at = t.at; checks = old_checks f (base o) t }) (olds o)) _ (map_among (λ (t : Table). record { at = t.at; checks = old_checks f (base o) t }) (olds o) t j)));
    file_short = length_fits;
  }

-- Where nothing is too large, each size and each number fits.
pub fits_of : (o : List ℕ) (i : Rattle.container_model.specs.Items.Item (List ℕ)) (e : Items) → first (all_checks o (i ∷ e)) ≡ None → Fits o (i ∷ e)
unfolding laid_file
fits_of o i e none =
    let n = new_avi o (i ∷ e) in
    let f = shift (edit_cuts (avi_of o) (i ∷ e)) in
    let new = laid_file o (i ∷ e) in
    checks_fit n (parts n) f o new none (few_counted n (parts n) f o new none)

-- The new file has a length that can be told, and its first form too.
pub file_fits : (o : List ℕ) (e : Items) → first (all_checks o e) ≡ None → (length (edited_file o e) ≤ 9223372036854775807) × (length (inner (new_avi o e).children (new_avi o e).left) ≤ limit32)
file_fits o e none =
    let n = new_avi o e in
    let f = shift (edit_cuts (avi_of o) e) in
    (length_fits n (parts n) f o (edited_file o e) none, form_fits n (parts n) f o (edited_file o e) none)
