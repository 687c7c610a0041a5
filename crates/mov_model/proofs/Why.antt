-- A movie is supported exactly where it isn't refused.
use Rattle.std.proofs.Common.{◌≡◌, ℕ, suc, ◌+◌, ◌^◌, ◌≤◌, Bool, true, false, cond, List, [], ◌∷◌, ◌++◌, length, Option, Some, None, refl, sym, ap, ◌∙◌, arith}
use Rattle.std.specs.Prelude.{◌||◌, codes}
use Rattle.std.specs.List.{flat_map, AllByRecursion}
use Rattle.container_model.specs.Chunk.{Chunk, spell, spell_all, ends}
use Rattle.container_model.specs.Units.{solids}
use Rattle.container_model.specs.Walk.{Step, end_at}
use Rattle.container_model.proofs.Items.{same_true}
use Rattle.container_model.proofs.Walk.{all_parts, all_join}
use Rattle.mov_model.specs.Atoms.{Place, file, moov, is_padding}
use Rattle.container_model.specs.Atoms.{is, is_listed, atoms_in}
use Rattle.mov_model.specs.Begins.{begins_movie}
use Rattle.mov_model.specs.Tables.{tables}
use Rattle.sample_tables.specs.Tables.{places}
use Rattle.mov_model.specs.Movie.{Movie, split_by, split, all_atoms, top_run, movie_of}
use Rattle.mov_model.specs.Parts.{parts, has_id, tracks, first_user}
use Rattle.mov_model.specs.Pieces.{held}
use Rattle.mov_model.specs.Reading.{row, inside_steps, inside_at, moov_steps, reading, atoms_met}
use Rattle.mov_model.specs.Support.{IsHeld, Readable, Supported, TrackFine}
use Rattle.mov_model.specs.Why.{Test, file_id, moov_id, met_moov, met_user, tests_from, is_none, place_tests, chunk_tests, tests, why}
use Rattle.mov_model.proofs.Again.{split_whole}
use Rattle.mov_model.proofs.Steps.{not_false, false_not, bad_none, back, good_parts, parts_good, met_both, met_back, met_row, listed_back, FileFine, file_good, good_file}
use Rattle.container_model.proofs.Tests.{AllFalse, first_none, none_first, stop_ends}
use Rattle.mov_model.proofs.Kids.{TrackOk, UserOk, KidsAre, kids_good, good_kids, kids_are, are_kids}

-- ---- moov among the atoms of the file

met_fine : (cs : List Chunk) → FileFine true cs → (has_id (codes "moov") cs ≡ false) × (has_id (codes "moof") cs ≡ false)
met_fine [] h = (refl, refl)
met_fine (c ∷ cs) h = go (is c (codes "moov")) h.0 h.1.0 h.1.1.1 (met_fine cs)
  where
    go : (t : Bool) → is c (codes "moof") ≡ false → (t ≡ true → true ≡ false) → FileFine (t || true) cs → (FileFine true cs → (has_id (codes "moov") cs ≡ false) × (has_id (codes "moof") cs ≡ false))
        → ((t || has_id (codes "moov") cs) ≡ false) × ((is c (codes "moof") || has_id (codes "moof") cs) ≡ false)
    go true f n more again = let no = n refl in absurd cc
    go false f n more again = let r = again more in (r.0, rw f r.1)

fine_met : (cs : List Chunk) → has_id (codes "moov") cs ≡ false → has_id (codes "moof") cs ≡ false → FileFine true cs
fine_met [] h g = tt
fine_met (c ∷ cs) h g = go (is c (codes "moov")) (is c (codes "moof")) h g (fine_met cs)
  where
    go : (t u : Bool) → (t || has_id (codes "moov") cs) ≡ false → (u || has_id (codes "moof") cs) ≡ false → (has_id (codes "moov") cs ≡ false → has_id (codes "moof") cs ≡ false → FileFine true cs)
        → (u ≡ false) × ((t ≡ true → true ≡ false) × ((t ≡ true → length (spell c) ≤ 2 ^ 26) × FileFine (t || true) cs))
    go true u h g again = absurd cc
    go false true h g again = absurd cc
    go false false h g again = (refl, (λ e. absurd cc, (λ e. absurd cc, again h g)))

-- what is asked of the atoms of the file
pub record TopFine (m : Movie) : Type 0 where
  is_moov : m.movie.id ≡ codes "moov"
  small : length (spell m.movie) ≤ 2 ^ 26
  one : has_id (codes "moov") m.behind ≡ false
  before : has_id (codes "moof") m.before ≡ false
  behind : has_id (codes "moof") m.behind ≡ false

split_fine : (cs : List Chunk) (left : List ℕ) → has_id (codes "moov") cs ≡ true → FileFine false cs → TopFine (split cs left)
split_fine [] left h f = absurd cc
split_fine (c ∷ cs) left h f = go (is c (codes "moov")) refl h f.0 f.1.1.0 f.1.1.1 (split_fine cs left)
  where
    go : (t : Bool) → is c (codes "moov") ≡ t → (t || has_id (codes "moov") cs) ≡ true → is c (codes "moof") ≡ false → (t ≡ true → length (spell c) ≤ 2 ^ 26) → FileFine (t || false) cs
        → (has_id (codes "moov") cs ≡ true → FileFine false cs → TopFine (split cs left)) → TopFine (split_by c cs left (split cs left) t)
    go true e h n small more again = let r = met_fine cs more in record { is_moov = same_true c.id (codes "moov") e; small = small refl; one = r.0; before = refl; behind = r.1 }
    go false e h n small more again =
        let r = again h more in
        record { is_moov = r.is_moov; small = r.small; one = r.one; before = rw n r.before; behind = r.behind }

fine_split : (cs : List Chunk) (left : List ℕ) → has_id (codes "moov") cs ≡ true → TopFine (split cs left) → FileFine false cs
fine_split [] left h f = tt
fine_split (c ∷ cs) left h f = go (is c (codes "moov")) refl h f (fine_split cs left)
  where
    no_moof : is c (codes "moov") ≡ true → is c (codes "moof") ≡ false
    no_moof e = rw (same_true c.id (codes "moov") e) refl

    split_or : (a b : Bool) → (a || b) ≡ false → (a ≡ false) × (b ≡ false)
    split_or true b e = absurd cc
    split_or false b e = (refl, e)

    go : (t : Bool) → is c (codes "moov") ≡ t → (t || has_id (codes "moov") cs) ≡ true → TopFine (split_by c cs left (split cs left) t) → (has_id (codes "moov") cs ≡ true → TopFine (split cs left) → FileFine false cs)
        → (is c (codes "moof") ≡ false) × ((t ≡ true → false ≡ false) × ((t ≡ true → length (spell c) ≤ 2 ^ 26) × FileFine (t || false) cs))
    go true e h f again = (no_moof e, (λ i. refl, (λ i. f.small, fine_met cs f.one f.behind)))
    go false e h f again =
        let r = split_or (is c (codes "moof")) (has_id (codes "moof") (split cs left).before) f.before in
        (r.0, (λ i. refl, (λ i. absurd cc, again h (record { is_moov = f.is_moov; small = f.small; one = f.one; before = r.1; behind = f.behind }))))

-- padding has other types
solid_id : (x : List ℕ) → is_padding x ≡ false → (cs : List Chunk) → has_id x (solids is_padding cs) ≡ has_id x cs
solid_id x n [] = refl
solid_id x n (c ∷ cs) = go (is_padding c.id) refl (solid_id x n cs)
  where
    other : (t : Bool) → is c x ≡ t → is_padding c.id ≡ true → t ≡ false
    other true e p = let no : is_padding c.id ≡ false = ap is_padding (same_true c.id x e) ∙ n in absurd cc
    other false e p = refl

    go : (t : Bool) → is_padding c.id ≡ t → has_id x (solids is_padding cs) ≡ has_id x cs → has_id x (cond t [] (record c { pad = [] } ∷ []) ++ solids is_padding cs) ≡ (is c x || has_id x cs)
    go true e again = again ∙ sym (ap (λ (t : Bool). t || has_id x cs) (other (is c x) refl e))
    go false e again = ap (λ (t : Bool). is c x || t) again

has_both : (x : List ℕ) (a b : List Chunk) → has_id x (a ++ b) ≡ (has_id x a || has_id x b)
has_both x [] b = refl
has_both x (c ∷ a) b = go (is c x) (has_both x a b)
  where
    go : (t : Bool) → has_id x (a ++ b) ≡ (has_id x a || has_id x b) → (t || has_id x (a ++ b)) ≡ ((t || has_id x a) || has_id x b)
    go true e = refl
    go false e = e

-- ---- the chunks of tracks

held_by : (atoms : List Chunk) (p : ℕ) → is_none (held 0 p atoms) ≡ false → IsHeld atoms p
held_by atoms p e = go (held 0 p atoms) refl e
  where
    go : (h : Option (ℕ × List ℕ)) → held 0 p atoms ≡ h → is_none h ≡ false → IsHeld atoms p
    go None i e = absurd cc
    go (Some x) i e = (x, i)

places_held : (atoms : List Chunk) (n k : ℕ) (ps : List ℕ) → AllFalse (place_tests atoms n k ps) → AllByRecursion (IsHeld atoms) ps
places_held atoms n k [] h = tt
places_held atoms n k (p ∷ ps) h = (held_by atoms p h.0, places_held atoms n (suc k) ps h.1)

held_places : (atoms : List Chunk) (n k : ℕ) (ps : List ℕ) → AllByRecursion (IsHeld atoms) ps → AllFalse (place_tests atoms n k ps)
held_places atoms n k [] h = tt
held_places atoms n k (p ∷ ps) h = (ap is_none h.0.1, held_places atoms n (suc k) ps h.1)

abbrev Fails : Test → Type 0
Fails t = t.0 ≡ false

chunks_held : (atoms : List Chunk) (n : ℕ) (ts : List Chunk) → AllFalse (chunk_tests atoms n ts) → AllByRecursion (λ t. AllByRecursion (IsHeld atoms) (places (tables t))) ts
chunks_held atoms n [] h = tt
chunks_held atoms n (t ∷ ts) h =
    let p = all_parts Fails (place_tests atoms n 1 (places (tables t))) (chunk_tests atoms (suc n) ts) h in
    (places_held atoms n 1 (places (tables t)) p.0, chunks_held atoms (suc n) ts p.1)

held_chunks : (atoms : List Chunk) (n : ℕ) (ts : List Chunk) → AllByRecursion (λ t. AllByRecursion (IsHeld atoms) (places (tables t))) ts → AllFalse (chunk_tests atoms n ts)
held_chunks atoms n [] h = tt
held_chunks atoms n (t ∷ ts) h = all_join Fails (place_tests atoms n 1 (places (tables t))) (chunk_tests atoms (suc n) ts) (held_places atoms n 1 (places (tables t)) h.0) (held_chunks atoms (suc n) ts h.1)

tracks_from : (atoms : List Chunk) (ts : List Chunk) → AllByRecursion TrackOk ts → AllByRecursion (λ t. AllByRecursion (IsHeld atoms) (places (tables t))) ts → AllByRecursion (TrackFine atoms) ts
tracks_from atoms [] h g = tt
tracks_from atoms (t ∷ ts) h g =
    (record { once = h.0.once; no_other_offsets = h.0.no_other_offsets; long_tables = h.0.long_tables; long_references = h.0.long_references; local = h.0.local; chunks_inside = g.0 }, tracks_from atoms ts h.1 g.1)

tracks_to : (atoms : List Chunk) (ts : List Chunk) → AllByRecursion (TrackFine atoms) ts → AllByRecursion TrackOk ts × AllByRecursion (λ t. AllByRecursion (IsHeld atoms) (places (tables t))) ts
tracks_to atoms [] h = (tt, tt)
tracks_to atoms (t ∷ ts) h =
    let r = tracks_to atoms ts h.1 in
    ((record { once = h.0.once; no_other_offsets = h.0.no_other_offsets; long_tables = h.0.long_tables; long_references = h.0.long_references; local = h.0.local }, r.0), (h.0.chunks_inside, r.1))

user_from : (cs : List Chunk) → AllByRecursion UserOk cs → AllByRecursion (λ c. (Rattle.qt_text.specs.User.udta.opening c).stop ≡ ends) cs × AllByRecursion (λ c. length c.body ≤ 2 ^ 24) cs
user_from [] h = (tt, tt)
user_from (c ∷ cs) h = let r = user_from cs h.1 in ((h.0.1, r.0), (h.0.0, r.1))

user_to : (cs : List Chunk) → AllByRecursion (λ c. (Rattle.qt_text.specs.User.udta.opening c).stop ≡ ends) cs → AllByRecursion (λ c. length c.body ≤ 2 ^ 24) cs → AllByRecursion UserOk cs
user_to [] h g = tt
user_to (c ∷ cs) h g = ((g.0, h.0), user_to cs h.1 g.1)

-- ---- the file

module _ (b : List ℕ) where
  abbrev cs : List Chunk
  cs = (top_run b).chunks

  abbrev m : Movie
  m = movie_of b

  abbrev kids : List Chunk
  kids = (atoms_in m.movie).chunks

  abbrev first_steps : List (Step Place)
  first_steps = row file 0 cs

  abbrev file_end : Step Place
  file_end = end_at file (length (spell_all cs)) (top_run b).stop

  abbrev met : List (Step Place)
  met = file_end ∷ back first_steps []

  abbrev kid_steps_now : List (Step Place)
  kid_steps_now = inside_steps false (inside_at m) kids

  abbrev moov_end : List (Step Place)
  moov_end = end_at moov (inside_at m + length (spell_all kids)) (atoms_in m.movie).stop ∷ []

  row_none : (cs : List Chunk) (at : ℕ) → flat_map moov_id (row file at cs) ≡ []
  row_none [] at = refl
  row_none (c ∷ cs) at = row_none cs (at + length (spell c))

  no_user : met_user met ≡ false
  no_user = listed_back moov_id (codes "udta") first_steps [] ∙ ap (λ (x : List (List ℕ)). is_listed (codes "udta") x || false) (row_none cs 0)

  row_moov : (cs : List Chunk) (at : ℕ) → is_listed (codes "moov") (flat_map file_id (row file at cs)) ≡ has_id (codes "moov") cs
  row_moov [] at = refl
  row_moov (c ∷ cs) at = ap (λ (t : Bool). is c (codes "moov") || t) (row_moov cs (at + length (spell c)))

  or_false : (t : Bool) → (t || false) ≡ t
  or_false true = refl
  or_false false = refl

  moov_met : met_moov (back first_steps []) ≡ has_id (codes "moov") cs
  moov_met = listed_back file_id (codes "moov") first_steps [] ∙ or_false (is_listed (codes "moov") (flat_map file_id first_steps)) ∙ row_moov cs 0

  count_met : atoms_met met ≡ length cs
  count_met = omega (arith, met_back first_steps [], met_row file cs 0)

  count_kids : atoms_met (moov_steps m) ≡ atoms_met kid_steps_now
  count_kids = omega (arith, met_both kid_steps_now moov_end)

  pub none_supported : why b ≡ None → Supported b
  none_supported none =
      let h = first_none (tests b) none in
      let p = all_parts Fails (tests_from [] (reading b)) (chunk_tests (all_atoms m) 1 (tracks m)) h.1 in
      let q = good_parts [] first_steps (file_end ∷ moov_steps m) p.0 in
      let f = file_good cs 0 [] (omega arith) q.0 in
      let has : has_id (codes "moov") cs ≡ true = sym moov_met ∙ not_false _ q.1.1.1.0 in
      let top = split_fine cs (top_run b).left has f.1 in
      let whole = split_whole cs (top_run b).left has in
      let k = good_parts met kid_steps_now moov_end q.1.1.1.1 in
      let g = kids_good kids false (inside_at m) met no_user (omega (arith, count_met, f.0)) k.0 in
      let are = kids_are kids g.1 in
      let u = user_from (first_user (parts m)) are.user in
      let none_of : has_id (codes "moof") (solids is_padding m.before ++ solids is_padding m.behind) ≡ false
      = has_both (codes "moof") (solids is_padding m.before) (solids is_padding m.behind) ∙ rw (solid_id (codes "moof") refl m.before, solid_id (codes "moof") refl m.behind, top.before) top.behind in
      record {
        readable = record {
          kind = not_false _ h.0;
          atoms_end = stop_ends (top_run b).stop q.1.1.0;
          has_moov = has;
          movie = record {
            is_moov = top.is_moov;
            no_other = solid_id (codes "moov") refl m.behind ∙ top.one;
            no_fragments = none_of;
            atoms_end = stop_ends (atoms_in m.movie).stop k.1.1.0;
            tracks_end = are.whole;
            user_ends = u.0;
            user_small = u.1;
            not_refused = are.not_refused;
            tracks = tracks_from (all_atoms m) (tracks m) are.tracks (chunks_held (all_atoms m) 1 (tracks m) p.1);
          };
        };
        small = top.small;
        few_parts = omega (arith, g.0, count_met, count_kids, ap (length {A = Chunk}) whole.0);
      }

  or_parts : (a b : Bool) → (a || b) ≡ false → (a ≡ false) × (b ≡ false)
  or_parts true b e = absurd cc
  or_parts false b e = (refl, e)

  -- what is asked of the atoms of moov
  pub kids_supported : Readable b → KidsAre (parts m)
  kids_supported s =
      let t = tracks_to (all_atoms m) (tracks m) s.movie.tracks in
      record { not_refused = s.movie.not_refused; whole = s.movie.tracks_end; tracks = t.0; user = user_to (first_user (parts m)) s.movie.user_ends s.movie.user_small }

  pub supported_none : Supported b → why b ≡ None
  supported_none s =
      let whole = split_whole cs (top_run b).left s.readable.has_moov in
      let fragments = or_parts (has_id (codes "moof") m.before) (has_id (codes "moof") m.behind)
      (sym (has_both (codes "moof") (solids is_padding m.before) (solids is_padding m.behind) ∙ rw (solid_id (codes "moof") refl m.before, solid_id (codes "moof") refl m.behind) refl) ∙ s.readable.movie.no_fragments) in
      let top : TopFine m = record { is_moov = s.readable.movie.is_moov; small = s.small; one = sym (solid_id (codes "moov") refl m.behind) ∙ s.readable.movie.no_other; before = fragments.0; behind = fragments.1 } in
      let few : length cs + atoms_met kid_steps_now ≤ 65536 = omega (arith, s.few_parts, count_kids, ap (length {A = Chunk}) whole.0) in
      let file_tests = good_file cs 0 [] (omega (arith, few)) (fine_split cs (top_run b).left s.readable.has_moov top) in
      let t = tracks_to (all_atoms m) (tracks m) s.readable.movie.tracks in
      let are = kids_supported s.readable in
      let kid_tests = good_kids kids false (inside_at m) met no_user (omega (arith, few, count_met)) (are_kids kids are) in
      let e = bad_none (top_run b).stop s.readable.atoms_end in
      let i = bad_none (atoms_in m.movie).stop s.readable.movie.atoms_end in
      let moov_tests = parts_good met kid_steps_now moov_end kid_tests (i.0, (i.1, tt)) in
      let steps = parts_good [] first_steps (file_end ∷ moov_steps m) file_tests (e.0, (e.1, (false_not (met_moov (back first_steps [])) (moov_met ∙ s.readable.has_moov), moov_tests))) in
      none_first (tests b) (false_not (begins_movie b) s.readable.kind, all_join Fails (tests_from [] (reading b)) (chunk_tests (all_atoms m) 1 (tracks m)) steps (held_chunks (all_atoms m) 1 (tracks m) t.1))
