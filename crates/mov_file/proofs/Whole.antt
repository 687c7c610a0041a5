-- A movie as a whole: all atoms, then the chunks, then the fields.
use Rattle.std.proofs.Common.{◌≡◌, ◌∙◌, ℕ, ◌+◌, ◌≤◌, Bool, true, false, cond, List, [], ◌∷◌, ◌++◌, length, map, refl, sym, ap, subst, arith, append_assoc, Option, Some, None}
use Rattle.std.specs.Prelude.{codes, not, ◌||◌, Result}
use Rattle.std.specs.List.{AllByRecursion, flat_map}
use Rattle.std.specs.declared.result.Result.TheVariants.{Ok, Err}
use Rattle.part_tree.specs.Fields.{values}
use Rattle.part_tree.specs.Ranges.{Ascends}
use Rattle.part_tree.specs.declared.field.FieldName.{FieldName}
use Rattle.part_tree.specs.declared.field.FieldName.TheVariants.{Bext, Info, Whole, User, Key, Stream}
use Rattle.part_tree.specs.declared.fields.Entry.{Entry}
use Rattle.part_tree.specs.declared.names.Span.{Span}
use Rattle.part_tree.specs.declared.shows.Track.{Track}
use Rattle.part_tree.specs.declared.why.ReadFault.{ReadFault}
use Rattle.part_tree.specs.declared.why.ReadFault.TheVariants as fault
use Rattle.part_tree.specs.declared.why.Why.{Why}
use Rattle.part_tree.specs.declared.why.Why.TheVariants.{UnknownKind}
use Rattle.container_model.specs.Atoms.{atoms_in}
use Rattle.container_model.specs.Chunk.{Chunk, Run, ends, spell, spell_all}
use Rattle.container_model.specs.Sizes.{inside}
use Rattle.container_model.specs.Tests.{first}
use Rattle.container_model.specs.Walk.{Step, end_at}
use Rattle.container_model.specs.Written.{slice}
use Rattle.container_model.proofs.Tests.{first_none}
use Rattle.container_model.proofs.Windows.{length_slice}
use Rattle.mov_model.specs.Atoms.{Place, file, moov}
use Rattle.mov_model.specs.Begins.{begins_movie}
use Rattle.mov_model.specs.Edited.{fields}
use Rattle.field_model.specs.KindReads.{Refuses}
use Rattle.mov_model.specs.Keys.{is_meta}
use Rattle.mov_model.specs.Kind.{mov_kind}
use Rattle.mov_model.specs.Map.{Kid, essence, essence_at, file_parts, kids_of, moov_parts, parts_of, tracks_of}
use Rattle.mov_model.specs.Movie.{Movie, all_atoms, movie_of, top_run}
use Rattle.mov_model.specs.Parts.{has_id, tracks}
use Rattle.mov_model.specs.Reading.{inside_at, inside_steps, moov_steps, reading, row as steps}
use Rattle.mov_model.specs.Why.{Test, chunk_tests, met_user, tests_from, why}
use Rattle.mov_model.specs.Pieces.{head_length}
use Rattle.mov_model.proofs.Steps.{back, good_parts, not_false}
use Rattle.qt_atoms.specs.Walk.{InOrder, atom_in, header_len, row}
use Rattle.qt_atoms.proofs.Steps.{header_length}
use Rattle.qt_text.specs.User.{udta}
use Rattle.qt_atoms.specs.declared.walker.AtomAt.{AtomAt}
use Rattle.mov_file.specs.Carriers.{kids_in}
use Rattle.mov_file.specs.Map.{EndsBy, IsAtom, IsKid, IsMapOf, PartEndsBy, first_that}
use Rattle.mov_file.specs.Moov.{FindsMoov, IsMoov}
use Rattle.mov_file.specs.Range.{IsNoWhy}
use Rattle.mov_file.specs.Sound.{AllEndBy, EssenceBy, LiesIn, TablesEndBy}
use Rattle.mov_file.specs.Track.{tables_after, track_from}
use Rattle.mov_file.specs.Walked.{Few, Walked, Walks, after, both, file_told, moov_told}
use Rattle.mov_file.specs.declared.holder.Holder.TheVariants.{File, Moov}
use Rattle.mov_file.specs.Whole.{AreCarried, HasPlaces, IsFresh, IsMet, LieInFile, Meets, UserEnds, fields_in, first_chunk}
use Rattle.mov_file.specs.declared.map.MovMap.{MovMap}
use Rattle.mov_file.specs.declared.movie.Carried.{Carried}
use Rattle.mov_file.specs.declared.reading.Reading.{Reading}
use Rattle.mov_file.specs.declared.track.TablesAt.{TablesAt}
use Rattle.part_tree.specs.declared.part.Part.{Part}
use Rattle.mov_file.proofs.Carried.{span_is, user_ends}
use Rattle.mov_file.proofs.Fine.{AtomsFine, all_tables, all_told, atoms_fine, chunks_told, moov_kids, moov_met, moov_run, no_user}
use Rattle.mov_file.proofs.Firsts.{first_before, first_behind}
use Rattle.mov_file.proofs.Held.{spelled}
use Rattle.mov_file.proofs.Walks.{after_both, tests_both, walks_both}

-- ---- all atoms

back_after : (ss before : List (Step Place)) → back ss before ≡ after before ss
back_after [] before = refl
back_after (s ∷ ss) before = back_after ss (s ∷ before)

abbrev steps_of : ℕ → Run → List (Step Place)
steps_of at r = inside_steps false at r.chunks ++ end_at moov (at + length (spell_all r.chunks)) r.stop ∷ []

abbrev file_steps : List ℕ → List (Step Place)
file_steps b = (file_told b).steps

abbrev moov_in : Bool → List ℕ → ℕ → ℕ → List (Step Place)
moov_in seen b at end = (moov_told seen b at end).steps

moov_are : (b : List ℕ) (k : AtomAt) → IsMoov b k → moov_steps (movie_of b) ≡ moov_in false b k.body.at (k.body.at + k.body.len)
moov_are b k is = ap (λ (at : ℕ). steps_of at (atoms_in (movie_of b).movie)) is.inside ∙ ap (steps_of k.body.at) (moov_run b k is)

all_steps : (b : List ℕ) (more : List (Step Place)) → moov_steps (movie_of b) ≡ more → reading b ≡ file_steps b ++ more
all_steps b more is =
    let e : Step Place = end_at file (length (spell_all (top_run b).chunks)) (top_run b).stop in
    ap (λ (ss : List (Step Place)). steps file 0 (top_run b).chunks ++ e ∷ ss) is ∙ sym (append_assoc (steps file 0 (top_run b).chunks) (e ∷ []) more)

-- no user data is among the atoms of the file
pub no_user_yet : (b : List ℕ) → met_user (after [] (file_steps b)) ≡ false
no_user_yet b =
    let e : Step Place = end_at file (length (spell_all (top_run b).chunks)) (top_run b).stop in
    ap met_user (after_both [] (steps file 0 (top_run b).chunks) (e ∷ []) ∙ ap (λ (ss : List (Step Place)). e ∷ ss) (sym (back_after (steps file 0 (top_run b).chunks) []))) ∙ no_user b

-- where no atom of the file is refused there is a moov
pub file_has_moov : (b : List ℕ) → first (tests_from [] (file_steps b)) ≡ None → has_id (codes "moov") (top_run b).chunks ≡ true
file_has_moov b none =
    let e : Step Place = end_at file (length (spell_all (top_run b).chunks)) (top_run b).stop in
    let q = good_parts [] (steps file 0 (top_run b).chunks) (e ∷ []) (first_none (tests_from [] (file_steps b)) none) in
    sym (moov_met b) ∙ not_false _ q.1.1.1.0

pub file_refused : (b : List ℕ) (w : Why) → first (tests_from [] (file_steps b)) ≡ Some w → first (tests_from [] (reading b)) ≡ Some w
file_refused b w h =
    let more = moov_steps (movie_of b) in
    ap (λ (ss : List (Step Place)). first (tests_from [] ss)) (all_steps b more refl) ∙ ap first (tests_both [] (file_steps b) more) ∙ first_before (tests_from [] (file_steps b)) (tests_from (after [] (file_steps b)) more) w h

-- the parts of moov where it was found
moov_parts_are : (b : List ℕ) (k : AtomAt) → IsMoov b k → moov_parts (inside_at (movie_of b)) (atoms_in (movie_of b).movie) ≡ (moov_told false b k.body.at (k.body.at + k.body.len)).parts
moov_parts_are b k is = ap (λ (at : ℕ). moov_parts at (atoms_in (movie_of b).movie)) is.inside ∙ ap (moov_parts k.body.at) (moov_run b k is)

pub all_met : (b : List ℕ) (k : AtomAt) (old mid new : Reading) → IsFresh old → IsMoov b k → Walked [] (file_told b) old mid
    → Walked (after [] (file_told b).steps) (moov_told false b k.body.at (k.body.at + k.body.len)) mid new → IsMet b new k
all_met b k old mid new fresh is w v =
    let more = moov_told false b k.body.at (k.body.at + k.body.len) in
    let all : Walked [] (both (file_told b) more) old new = walks_both [] (file_told b) more old mid new (Ok tt) w v in
    let same : (both (file_told b) more).steps ≡ reading b = sym (all_steps b more.steps (moov_are b k is)) in
    record {
      tests = ap (λ (ss : List (Step Place)). first (tests_from [] ss)) (sym same) ∙ all.tests;
      moov = is;
      parts = all.parts ∙ ap (λ (ps : List Part). ps ++ (file_parts (top_run b) ++ more.parts)) fresh.parts ∙ ap (λ (ps : List Part). file_parts (top_run b) ++ ps) (sym (moov_parts_are b k is));
      mdats = all.mdats ∙ ap (λ (ss : List Span). ss ++ flat_map essence_at (both (file_told b) more).steps) fresh.mdats ∙ ap (flat_map essence_at) same;
      tracks = all.tracks ∙ ap (λ (ts : List TablesAt). tables_after ts (both (file_told b) more).steps) fresh.tracks ∙ ap (tables_after []) same;
    }

pub moov_refused : (b : List ℕ) (k : AtomAt) (mid new : Reading) (w : Why) → IsMoov b k → first (tests_from [] (file_steps b)) ≡ None → first (tests_from (after [] (file_steps b)) (moov_in false b k.body.at (k.body.at + k.body.len))) ≡ Some w
    → first (tests_from [] (reading b)) ≡ Some w
moov_refused b k mid new w is none h =
    let more = moov_in false b k.body.at (k.body.at + k.body.len) in
    ap (λ (ss : List (Step Place)). first (tests_from [] ss)) (all_steps b more (moov_are b k is)) ∙ ap first (tests_both [] (file_steps b) more)
    ∙ first_behind (tests_from [] (file_steps b)) (tests_from (after [] (file_steps b)) more) none ∙ h

-- ---- why a file is refused

abbrev chunk_tests_of : List ℕ → List Test
chunk_tests_of b = chunk_tests (all_atoms (movie_of b)) 1 (tracks (movie_of b))

pub atom_why : (b : List ℕ) (w : Why) → begins_movie b ≡ true → first (tests_from [] (reading b)) ≡ Some w → why b ≡ Some w
atom_why b w begins h =
    ap (λ (t : Bool). cond (not t) (Some UnknownKind) (first (tests_from [] (reading b) ++ chunk_tests_of b))) begins ∙ first_before (tests_from [] (reading b)) (chunk_tests_of b) w h

pub chunks_why : (b : List ℕ) (k : AtomAt) → begins_movie b ≡ true → first (tests_from [] (reading b)) ≡ None → IsMoov b k → InOrder k.at (length b) k → why b ≡ first_chunk b (essence b) 1 (tracks_of b)
chunks_why b k begins none is order =
    ap (λ (t : Bool). cond (not t) (Some UnknownKind) (first (tests_from [] (reading b) ++ chunk_tests_of b))) begins
    ∙ first_behind (tests_from [] (reading b)) (chunk_tests_of b) none ∙ chunks_told b (atoms_fine b none) k is order

pub kind_why : (b : List ℕ) → begins_movie b ≡ false → why b ≡ Some UnknownKind
kind_why b other = ap (λ (t : Bool). cond (not t) (Some UnknownKind) (first (tests_from [] (reading b) ++ chunk_tests_of b))) other

-- ---- what is told of a movie

pub moov_atom : (b : List ℕ) (k : AtomAt) → IsMoov b k → InOrder k.at (length b) k → IsAtom b (length (spell_all (movie_of b).before)) (movie_of b).movie k
moov_atom b k is order =
    let c = atom_in b k in
    let len : length (slice b k.body.at k.body.len) ≡ k.body.len = length_slice b k.body.at k.body.len (omega (arith, order.behind, order.last)) in
    let head : head_length c ≡ header_len k.form = header_length k.form k.kind.0 (length c.body) order.letters in
    let next : k.at + length (spell c) ≡ k.next = omega (arith, spelled c refl, head, len, order.body, order.behind) in
    record {
      atom = is.movie;
      place = is.at;
      body = span_is (inside_at (movie_of b)) (length (movie_of b).movie.body) k.body is.inside (ap (λ (x : Chunk). length x.body) is.movie ∙ len);
      behind = ap (λ (x : Chunk). length (spell_all (movie_of b).before) + length (spell x)) is.movie ∙ ap (λ (i : ℕ). i + length (spell c)) is.at ∙ next;
    }

fields_same : (b : List ℕ) (n : FieldName) → fields_in (atoms_in (movie_of b).movie).chunks n ≡ fields b n
fields_same b (User id) = refl
fields_same b (Key name) = refl
fields_same b (Bext x) = refl
fields_same b (Info x) = refl
fields_same b (Whole x) = refl
fields_same b (Stream x) = refl

pub carried_fields : (b : List ℕ) (k : AtomAt) (n : FieldName) → IsMoov b k → fields_in (row inside b k.body.at (k.body.at + k.body.len)).chunks n ≡ fields b n
carried_fields b k n is = ap (λ (r : Run). fields_in r.chunks n) (sym (moov_run b k is)) ∙ fields_same b n

pub user_end : (b : List ℕ) (k : AtomAt) → IsMoov b k → first (tests_from [] (reading b)) ≡ None → UserEnds (first_that udta.is (kids_in b k.body.at (k.body.at + k.body.len)))
user_end b k is none =
    let cs = (atoms_in (movie_of b).movie).chunks in
    let there = user_ends (inside_at (movie_of b)) cs (atoms_fine b none).kids.user in
    subst (λ (ks : List Kid). UserEnds (first_that udta.is ks)) (moov_kids b k is) there

pub moov_end : (b : List ℕ) (k : AtomAt) → IsMoov b k → first (tests_from [] (reading b)) ≡ None → (row inside b k.body.at (k.body.at + k.body.len)).stop ≡ ends
moov_end b k is none = sym (ap (λ (r : Run). r.stop) (moov_run b k is)) ∙ (atoms_fine b none).moov_ends

module _ (b : List ℕ) (begins : begins_movie b ≡ true) (r : Reading) (k : AtomAt) (met : IsMet b r k) (order : InOrder k.at (length b) k) (ts : List Track) (tracks_are : ts ≡ map track_from r.tracks.items) where
  told_tracks : ts ≡ tracks_of b
  told_tracks = tracks_are ∙ ap (map track_from) met.tracks ∙ all_tables b

  -- each table of places has its rows
  pub rows_there : AllByRecursion (HasPlaces b) ts
  rows_there = subst (AllByRecursion (HasPlaces b)) (sym told_tracks) (all_told b (atoms_fine b met.tests) k met.moov order).rows_there

  pub why_is : why b ≡ first_chunk b r.mdats.items 1 ts
  why_is = chunks_why b k begins met.tests met.moov order ∙ ap (λ (ss : List Span). first_chunk b ss 1 (tracks_of b)) (sym met.mdats) ∙ ap (λ (us : List Track). first_chunk b r.mdats.items 1 us) (sym told_tracks)

  pub map_is : (c : Carried) (m : MovMap) → None ≡ first_chunk b r.mdats.items 1 ts → AreCarried b k.body.at (k.body.at + k.body.len) c
      → m.len ≡ length b → m.parts.items ≡ r.parts.items → m.fields ≡ c.fields → m.moov ≡ k → m.user ≡ c.user → m.meta ≡ c.meta → m.mdats.items ≡ r.mdats.items → m.tracks.items ≡ ts → IsMapOf b m
  map_is c m fine carried len parts fs moov_is user meta mdats tracks_is =
      let kids = moov_kids b k met.moov in
      record {
        supported = why_is ∙ sym fine;
        len = len;
        parts = parts ∙ met.parts;
        field_values = λ n. ap (λ (x : List Entry). values x n) fs ∙ carried.field_values n ∙ carried_fields b k n met.moov;
        moov = subst (IsAtom b (length (spell_all (movie_of b).before)) (movie_of b).movie) (sym moov_is) (moov_atom b k met.moov order);
        user = subst (IsKid b (first_that udta.is (kids_of (movie_of b)))) (sym user) (subst (λ (ks : List Kid). IsKid b (first_that udta.is ks) c.user) (sym kids) carried.user);
        meta = subst (IsKid b (first_that is_meta (kids_of (movie_of b)))) (sym meta) (subst (λ (ks : List Kid). IsKid b (first_that is_meta ks) c.meta) (sym kids) carried.meta);
        mdats = mdats ∙ met.mdats;
        tracks = tracks_is ∙ told_tracks;
      }

-- ---- the walk over a whole movie

pub file_fails : (b : List ℕ) (old now new : Reading) (f : ReadFault) → Walks [] (file_told b) old now (Err f) → Meets b new (Err f)
file_fails b old now new (fault.Why w) h = file_refused b w h
file_fails b old now new fault.Depot h = tt
file_fails b old now new fault.Memory h = tt

pub find_fails : (b : List ℕ) (new : Reading) (f : ReadFault) → first (tests_from [] (file_told b).steps) ≡ None → FindsMoov b (Err f) → Meets b new (Err f)
find_fails b new (fault.Why w) none h = absurd (let yes = file_has_moov b none in cc)
find_fails b new fault.Depot none h = tt
find_fails b new fault.Memory none h = tt

pub moov_fails : (b : List ℕ) (k : AtomAt) (mid now new : Reading) (f : ReadFault) (seen : Bool) → seen ≡ false → IsMoov b k → first (tests_from [] (file_told b).steps) ≡ None
    → Walks (after [] (file_told b).steps) (moov_told seen b k.body.at (k.body.at + k.body.len)) mid now (Err f) → Meets b new (Err f)
moov_fails b k mid now new (fault.Why w) seen e is none h =
    moov_refused b k mid now w is none (subst (λ (t : Bool). first (tests_from (after [] (file_told b).steps) (moov_told t b k.body.at (k.body.at + k.body.len)).steps) ≡ Some w) e h)
moov_fails b k mid now new fault.Depot seen e is none h = tt
moov_fails b k mid now new fault.Memory seen e is none h = tt

pub moov_meets : (b : List ℕ) (k : AtomAt) (old mid new : Reading) (seen : Bool) → seen ≡ false → IsFresh old → IsMoov b k → Walked [] (file_told b) old mid
    → Walked (after [] (file_told b).steps) (moov_told seen b k.body.at (k.body.at + k.body.len)) mid new → IsMet b new k
moov_meets b k old mid new seen e fresh is w v =
    all_met b k old mid new fresh is w (subst (λ (t : Bool). Walked (after [] (file_told b).steps) (moov_told t b k.body.at (k.body.at + k.body.len)) mid new) e v)

-- nothing was met yet
fresh_lies : (len : ℕ) (old : Reading) → IsFresh old → AllEndBy len old
fresh_lies len old fresh = record {
  parts = subst (AllByRecursion (PartEndsBy len)) (sym fresh.parts) tt;
  tables = subst (AllByRecursion (TablesEndBy len)) (sym fresh.tracks) tt;
  tracks = omega (arith, ap length fresh.tracks);
}

fresh_essence : (old : Reading) → IsFresh old → EssenceBy 0 old
fresh_essence old fresh = record { order = subst (Ascends 0) (sym fresh.mdats) tt; ends = subst (AllByRecursion (EndsBy 0)) (sym fresh.mdats) tt }

pub all_lie : (len : ℕ) (k : AtomAt) (old mid new : Reading) → IsFresh old → InOrder k.at len k → Few new → LiesIn File 0 len old mid → LiesIn Moov k.body.at (k.body.at + k.body.len) mid new → LieInFile len new k
all_lie len k old mid new fresh order few f g =
    let all = g.all len (omega (arith, order.behind, order.last)) (f.all len (omega arith) (fresh_lies len old fresh)) in
    let was = f.essence (fresh_essence old fresh) in
    record {
      moov = order;
      few = omega (arith, all.tracks, few.track, few.count);
      all = all;
      essence = record { order = subst (Ascends 0) (sym g.essence) was.order; ends = subst (AllByRecursion (EndsBy len)) (sym g.essence) was.ends };
    }

-- ---- the map, or why there is none

pub meet_fails : (b : List ℕ) (r : Reading) (f : ReadFault) → begins_movie b ≡ true → Meets b r (Err f) → Refuses mov_kind b f
meet_fails b r (fault.Why w) begins h = atom_why b w begins h
meet_fails b r fault.Depot begins h = tt
meet_fails b r fault.Memory begins h = tt

pub no_why_fails : (b : List ℕ) (f : ReadFault) → IsNoWhy f → Refuses mov_kind b f
no_why_fails b (fault.Why w) h = absurd h
no_why_fails b fault.Depot h = tt
no_why_fails b fault.Memory h = tt
