-- The tests of what is met: they fail exactly where the atoms are fine.
use Rattle.std.proofs.Common.{◌≡◌, ℕ, zero, suc, ◌+◌, ◌^◌, ◌<◌, ◌≤◌, Bool, true, false, List, [], ◌∷◌, ◌++◌, length, take, Option, Some, None, refl, sym, ap, subst, ◌∙◌, arith}
use Rattle.std.specs.Prelude.{◌&&◌, ◌||◌, not, codes}
use Rattle.std.specs.Str.{bytes_eq}
use Rattle.std.specs.List.{flat_map, AllByRecursion}
use Rattle.std.proofs.lemmas.Bool.{leb-false, ltb-false, le-ltb, lt-leb}
use Rattle.std.proofs.lemmas.List.{length-append}
use Rattle.std.proofs.lemmas.List.Concat.{flat_map-append}
use Rattle.container_model.specs.Chunk.{Chunk, spell, spell_all, Stop, ends}
use Rattle.container_model.specs.Deep.{kids}
use Rattle.container_model.specs.Items.{listed}
use Rattle.container_model.specs.Walk.{body_at, Step, chunk_at, end_at, along, walk_at, walk, chunk_met}
use Rattle.container_model.proofs.Walk.{OfStep, all_parts, all_join}
use Rattle.mov_model.specs.Atoms.{Place, file, user_data, moov, trak, mdia, minf, stbl, dinf, opens, format}
use Rattle.container_model.specs.Atoms.{is, is_listed}
use Rattle.mov_model.specs.Reading.{row, atoms_met, once, names_of, no_twice}
use Rattle.mov_model.specs.Why.{Test, moov_id, met_moov, names_met, is_twice, other_offsets, short_table, external, track_tests, atom_tests, bad_size, end_tests, step_tests, tests_from}
use Rattle.container_model.specs.Tests.{ended}
use Rattle.container_model.proofs.Tests.{AllFalse, guarded, guard, stop_ends}

pub not_false : (t : Bool) → not t ≡ false → t ≡ true
not_false true e = refl
not_false false e = absurd cc

pub false_not : (t : Bool) → t ≡ true → not t ≡ false
false_not t e = rw e refl

-- ---- one step after the other

abbrev pub Good : List (Step Place) → List (Step Place) → Type 0
Good before ss = AllFalse (tests_from before ss)

-- what was met, with these steps after it
abbrev pub back : List (Step Place) → List (Step Place) → List (Step Place)
back [] before = before
back (s ∷ ss) before = back ss (s ∷ before)

abbrev Fails : Test → Type 0
Fails t = t.0 ≡ false

pub good_parts : (before xs ys : List (Step Place)) → Good before (xs ++ ys) → Good before xs × Good (back xs before) ys
good_parts before [] ys h = (tt, h)
good_parts before (x ∷ xs) ys h =
    let p = all_parts Fails (step_tests before x) (tests_from (x ∷ before) (xs ++ ys)) h in
    let r = good_parts (x ∷ before) xs ys p.1 in
    (all_join Fails (step_tests before x) (tests_from (x ∷ before) xs) p.0 r.0, r.1)

pub parts_good : (before xs ys : List (Step Place)) → Good before xs → Good (back xs before) ys → Good before (xs ++ ys)
parts_good before [] ys h g = g
parts_good before (x ∷ xs) ys h g =
    let p = all_parts Fails (step_tests before x) (tests_from (x ∷ before) xs) h in
    all_join Fails (step_tests before x) (tests_from (x ∷ before) (xs ++ ys)) p.0 (parts_good (x ∷ before) xs ys p.1 g)

met_one : (s : Step Place) (ss : List (Step Place)) → atoms_met (s ∷ ss) ≡ length (chunk_met s) + atoms_met ss
met_one s ss = length-append (chunk_met s) (flat_map chunk_met ss)

pub met_both : (xs ys : List (Step Place)) → atoms_met (xs ++ ys) ≡ atoms_met xs + atoms_met ys
met_both xs ys = ap length (flat_map-append chunk_met xs ys) ∙ length-append (flat_map chunk_met xs) (flat_map chunk_met ys)

pub met_back : (ss before : List (Step Place)) → atoms_met (back ss before) ≡ atoms_met ss + atoms_met before
met_back [] before = omega arith
met_back (s ∷ ss) before = omega (arith, met_back ss (s ∷ before), met_one s before, met_one s ss)

listed-append : (x : List ℕ) (a b : List (List ℕ)) → is_listed x (a ++ b) ≡ (is_listed x a || is_listed x b)
listed-append x [] b = refl
listed-append x (y ∷ a) b = go (bytes_eq y x) (listed-append x a b)
  where
    go : (t : Bool) → is_listed x (a ++ b) ≡ (is_listed x a || is_listed x b) → (t || is_listed x (a ++ b)) ≡ ((t || is_listed x a) || is_listed x b)
    go true e = refl
    go false e = e

-- what is told of each step is listed, whether it came before or after
pub listed_back : (v : Step Place → List (List ℕ)) (x : List ℕ) (ss before : List (Step Place)) → is_listed x (flat_map v (back ss before)) ≡ (is_listed x (flat_map v ss) || is_listed x (flat_map v before))
listed_back v x [] before = refl
listed_back v x (s ∷ ss) before =
    listed_back v x ss (s ∷ before) ∙ ap (λ (t : Bool). is_listed x (flat_map v ss) || t) (listed-append x (v s) (flat_map v before))
    ∙ sym (ap (λ (t : Bool). t || is_listed x (flat_map v before)) (listed-append x (v s) (flat_map v ss)) ∙ swap (is_listed x (v s)) (is_listed x (flat_map v ss)) (is_listed x (flat_map v before)))
  where
    swap : (a b c : Bool) → ((a || b) || c) ≡ (b || (a || c))
    swap true true c = refl
    swap true false c = refl
    swap false b c = refl

-- ---- atoms of the file

abbrev pub FileFine : Bool → List Chunk → Type 0
FileFine met [] = Unit {0}
FileFine met (c ∷ cs) =
    (is c (codes "moof") ≡ false) × ((is c (codes "moov") ≡ true → met ≡ false) × ((is c (codes "moov") ≡ true → length (spell c) ≤ 2 ^ 26) × FileFine (is c (codes "moov") || met) cs))

pub file_good : (cs : List Chunk) (at : ℕ) (before : List (Step Place)) → atoms_met before ≤ 65536 → Good before (row file at cs) → (length cs + atoms_met before ≤ 65536) × FileFine (met_moov before) cs
file_good [] at before low h = (omega arith, tt)
file_good (c ∷ cs) at before low h =
    let less : atoms_met before < 65536 = leb-false _ _ h.0 in
    let again = file_good cs (at + length (spell c)) (chunk_at file at c ∷ before) (omega arith) h.1.1.1.1 in
    (omega (arith, again.0), (h.1.0, (guarded _ _ h.1.1.0, (λ i. ltb-false _ _ (guarded _ _ h.1.1.1.0 i), again.1))))

pub good_file : (cs : List Chunk) (at : ℕ) (before : List (Step Place)) → length cs + atoms_met before ≤ 65536 → FileFine (met_moov before) cs → Good before (row file at cs)
good_file [] at before low h = tt
good_file (c ∷ cs) at before low h =
    (lt-leb 65536 (atoms_met before) (omega arith), (h.0, (guard _ _ h.1.0, (guard _ _ (λ i. le-ltb _ _ (h.1.1.0 i)), good_file cs (at + length (spell c)) (chunk_at file at c ∷ before) (omega arith) h.1.1.1))))

pub met_row : (p : Place) (cs : List Chunk) (at : ℕ) → atoms_met (row p at cs) ≡ length cs
met_row p [] at = refl
met_row p (c ∷ cs) at = ap suc (met_row p cs (at + length (spell c)))

-- ---- the children of the user data

pub user_good : (cs : List Chunk) (at : ℕ) (before : List (Step Place)) → atoms_met before ≤ 65536 → Good before (row user_data at cs) → length cs + atoms_met before ≤ 65536
user_good [] at before low h = omega arith
user_good (c ∷ cs) at before low h =
    let less : atoms_met before < 65536 = leb-false _ _ h.0 in
    let again = user_good cs (at + length (spell c)) (chunk_at user_data at c ∷ before) (omega arith) h.1 in
    omega (arith, again)

pub good_user : (cs : List Chunk) (at : ℕ) (before : List (Step Place)) → length cs + atoms_met before ≤ 65536 → Good before (row user_data at cs)
good_user [] at before low = tt
good_user (c ∷ cs) at before low = (lt-leb 65536 (atoms_met before) (omega arith), good_user cs (at + length (spell c)) (chunk_at user_data at c ∷ before) (omega arith))

-- ---- what stands in a track

abbrev pub in_track : Place → Bool
in_track file = false
in_track user_data = false
in_track moov = false
in_track trak = true
in_track mdia = true
in_track minf = true
in_track stbl = true
in_track dinf = true

abbrev pub InTrack : Step Place → Type 0
InTrack (chunk_at p at c) = in_track p ≡ true
InTrack (end_at p at stop) = in_track p ≡ true

abbrev MayTrack : Option Place → Type 0
MayTrack None = Unit {0}
MayTrack (Some p) = in_track p ≡ true

opens_track : (p : Place) (id word : List ℕ) → MayTrack (opens p id word)
opens_track file id word = tt
opens_track user_data id word = tt
opens_track moov id word = go (bytes_eq id (codes "trak"))
  where
    go : (t : Bool) → MayTrack (Rattle.mov_model.specs.Atoms.when t trak)
    go true = refl
    go false = tt
opens_track trak id word = go (bytes_eq id (codes "mdia"))
  where
    go : (t : Bool) → MayTrack (Rattle.mov_model.specs.Atoms.when t mdia)
    go true = refl
    go false = tt
opens_track mdia id word = go (bytes_eq id (codes "minf"))
  where
    go : (t : Bool) → MayTrack (Rattle.mov_model.specs.Atoms.when t minf)
    go true = refl
    go false = tt
opens_track minf id word = go (bytes_eq id (codes "stbl")) (bytes_eq id (codes "dinf"))
  where
    go : (t u : Bool) → MayTrack (Rattle.mov_model.specs.Atoms.either t stbl (Rattle.mov_model.specs.Atoms.when u dinf))
    go true u = refl
    go false true = refl
    go false false = tt
opens_track stbl id word = tt
opens_track dinf id word = tt

along_track : (g : ℕ → Chunk → List (Step Place)) → ((at : ℕ) (c : Chunk) → AllByRecursion InTrack (g at c)) → (at : ℕ) (cs : List Chunk) → AllByRecursion InTrack (along g at cs)
along_track g h at [] = tt
along_track g h at (c ∷ cs) = all_join InTrack (g at c) (along g (at + length (spell c)) cs) (h at c) (along_track g h (at + length (spell c)) cs)

opened_track : (d : ℕ) → ((q : Place) → in_track q ≡ true → (at : ℕ) (c : Chunk) → AllByRecursion InTrack (walk format d q at c)) → (at : ℕ) (c : Chunk) (o : Option Place) → MayTrack o → AllByRecursion InTrack (walk_at format (walk format d) at c o)
opened_track d h at c None m = tt
opened_track d h at c (Some q) m =
    let last : AllByRecursion InTrack (end_at q (body_at at c + (0 + length (spell_all (kids format q c).chunks))) (kids format q c).stop ∷ []) = (m, tt) in
    all_join InTrack (along (walk format d q) (body_at at c + 0) (kids format q c).chunks) _ (along_track (walk format d q) (h q m) (body_at at c + 0) (kids format q c).chunks) last

walk_track : (d : ℕ) (p : Place) → in_track p ≡ true → (at : ℕ) (c : Chunk) → AllByRecursion InTrack (walk format d p at c)
unfolding walk
walk_track zero p i at c = (i, tt)
walk_track (suc d) p i at c = (i, opened_track d (λ q j at c. walk_track d q j at c) at c (opens p c.id (take 4 c.body)) (opens_track p c.id (take 4 c.body)))

-- what is in an atom of moov
abbrev pub inner : ℕ → Chunk → List (Step Place)
inner at c = walk_at format (walk format 4) at c (opens moov c.id (take 4 c.body))

pub walk_kid : (at : ℕ) (c : Chunk) → walk format 5 moov at c ≡ chunk_at moov at c ∷ inner at c
unfolding walk
walk_kid at c = refl

pub inner_track : (at : ℕ) (c : Chunk) → AllByRecursion InTrack (inner at c)
inner_track at c = opened_track 4 (walk_track 4) at c (opens moov c.id (take 4 c.body)) (opens_track moov c.id (take 4 c.body))

-- ---- the tests in a track

track_atoms : (p : Place) (before : List (Step Place)) (at : ℕ) (c : Chunk) → in_track p ≡ true → atom_tests p before at c ≡ track_tests p before at c
track_atoms file before at c i = absurd cc
track_atoms user_data before at c i = absurd cc
track_atoms moov before at c i = absurd cc
track_atoms trak before at c i = refl
track_atoms mdia before at c i = refl
track_atoms minf before at c i = refl
track_atoms stbl before at c i = refl
track_atoms dinf before at c i = refl

track_names : (p : Place) (before : List (Step Place)) (at : ℕ) (c : Chunk) → in_track p ≡ true → names_met (chunk_at p at c ∷ before) ≡ listed (once p c.id) ++ names_met before
track_names file before at c i = absurd cc
track_names user_data before at c i = absurd cc
track_names moov before at c i = absurd cc
track_names trak before at c i = refl
track_names mdia before at c i = refl
track_names minf before at c i = refl
track_names stbl before at c i = refl
track_names dinf before at c i = refl

track_end : (p : Place) (before : List (Step Place)) → in_track p ≡ true → end_tests p before ≡ []
track_end file before i = absurd cc
track_end user_data before i = absurd cc
track_end moov before i = absurd cc
track_end trak before i = refl
track_end mdia before i = refl
track_end minf before i = refl
track_end stbl before i = refl
track_end dinf before i = refl

once_more : (o : Option (List ℕ)) (seen rest : List (List ℕ)) → is_twice o seen ≡ false → no_twice (listed o ++ seen) rest ≡ true → no_twice seen (listed o ++ rest) ≡ true
once_more None seen rest e h = h
once_more (Some x) seen rest e h = rw e h

once_less : (o : Option (List ℕ)) (seen rest : List (List ℕ)) → no_twice seen (listed o ++ rest) ≡ true → (is_twice o seen ≡ false) × (no_twice (listed o ++ seen) rest ≡ true)
once_less None seen rest h = (refl, h)
once_less (Some x) seen rest h = go (is_listed x seen) h
  where
    go : (t : Bool) → (not t && no_twice (x ∷ seen) rest) ≡ true → (t ≡ false) × (no_twice (x ∷ seen) rest ≡ true)
    go true h = absurd cc
    go false h = (refl, h)

-- what is asked of an atom by where it stands
abbrev pub AtomFine : Place → Chunk → Type 0
AtomFine p c = (other_offsets p c ≡ false) × ((short_table p c ≡ false) × (external p c ≡ false))

pub low_prefix : (q : Place) (c : Chunk) → 0 ≤ length c.body
low_prefix q c = omega arith

abbrev pub StepFine : Step Place → Type 0
StepFine s = OfStep format AtomFine low_prefix s

-- the names of what is met
abbrev pub step_names : List (Step Place) → List (List ℕ)
step_names ss = flat_map names_of (flat_map chunk_met ss)

abbrev pub TrackGood : List (Step Place) → List (Step Place) → Type 0
TrackGood before ss = (atoms_met ss + atoms_met before ≤ 65536) × ((no_twice (names_met before) (step_names ss) ≡ true) × AllByRecursion StepFine ss)

pub track_good : (ss before : List (Step Place)) → AllByRecursion InTrack ss → atoms_met before ≤ 65536 → Good before ss → TrackGood before ss
track_good [] before i low h = (omega arith, (refl, tt))
track_good (chunk_at p at c ∷ ss) before i low h =
    let q = all_parts Fails (atom_tests p before at c) (tests_from (chunk_at p at c ∷ before) ss) h.1 in
    let t : AllFalse (track_tests p before at c) = subst AllFalse (track_atoms p before at c i.0) q.0 in
    let less : atoms_met before < 65536 = leb-false _ _ h.0 in
    let again = track_good ss (chunk_at p at c ∷ before) i.1 (omega arith) q.1 in
    let named : no_twice (listed (once p c.id) ++ names_met before) (step_names ss) ≡ true = ap (λ (x : List (List ℕ)). no_twice x (step_names ss)) (sym (track_names p before at c i.0)) ∙ again.1.0 in
    (omega (arith, again.0), (once_more (once p c.id) (names_met before) (step_names ss) t.1.0 named, ((t.0, (t.1.1.0, t.1.1.1.0)), again.1.1)))
track_good (end_at p at stop ∷ ss) before i low h =
    let q = all_parts Fails (end_tests p before) (tests_from (end_at p at stop ∷ before) ss) h.1.1 in
    let again = track_good ss (end_at p at stop ∷ before) i.1 low q.1 in
    (again.0, (again.1.0, (stop_ends stop h.1.0, again.1.1)))

pub bad_none : (stop : Stop) → stop ≡ ends → (bad_size stop ≡ false) × (not (ended stop) ≡ false)
bad_none stop e = (rw e refl, rw e refl)

pub good_track : (ss before : List (Step Place)) → AllByRecursion InTrack ss → TrackGood before ss → Good before ss
good_track [] before i h = tt
good_track (chunk_at p at c ∷ ss) before i h =
    let o = once_less (once p c.id) (names_met before) (step_names ss) h.1.0 in
    let named : no_twice (names_met (chunk_at p at c ∷ before)) (step_names ss) ≡ true = ap (λ (x : List (List ℕ)). no_twice x (step_names ss)) (track_names p before at c i.0) ∙ o.1 in
    let f = h.1.1.0 in
    let t : AllFalse (track_tests p before at c) = (f.0, (o.0, (f.1.0, (f.1.1, tt)))) in (
      lt-leb 65536 (atoms_met before) (omega (arith, h.0)),
      all_join Fails (atom_tests p before at c) (tests_from (chunk_at p at c ∷ before) ss) (subst AllFalse (sym (track_atoms p before at c i.0)) t) (good_track ss (chunk_at p at c ∷ before) i.1 (omega (arith, h.0), (named, h.1.1.1))),
    )
good_track (end_at p at stop ∷ ss) before i h =
    let b = bad_none stop h.1.1.0 in
    (b.0, (b.1, all_join Fails (end_tests p before) (tests_from (end_at p at stop ∷ before) ss) (subst AllFalse (sym (track_end p before i.0)) tt) (good_track ss (end_at p at stop ∷ before) i.1 (h.0, (h.1.0, h.1.1.1)))))

-- steps in a track are no atoms of moov
pub track_ids : (ss : List (Step Place)) → AllByRecursion InTrack ss → flat_map moov_id ss ≡ []
track_ids [] i = refl
track_ids (chunk_at p at c ∷ ss) i = one p i.0 ∙ track_ids ss i.1
  where
    one : (p : Place) → in_track p ≡ true → moov_id (chunk_at p at c) ++ flat_map moov_id ss ≡ flat_map moov_id ss
    one file j = refl
    one user_data j = refl
    one moov j = absurd cc
    one trak j = refl
    one mdia j = refl
    one minf j = refl
    one stbl j = refl
    one dinf j = refl
track_ids (end_at p at stop ∷ ss) i = track_ids ss i.1
