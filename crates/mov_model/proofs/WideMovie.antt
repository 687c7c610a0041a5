-- A movie with wide tables is read again, has the same fields, and its tables find the same.
use Rattle.std.proofs.Common.{Bool, List, None, Option, Some, [], ap, arith, cond, false, length, map, refl, subst, sym, take, true, ℕ, ◌++◌, ◌+◌, ◌<◌, ◌^◌, ◌∙◌, ◌∷◌, ◌≡◌, ◌≤◌}
use Rattle.std.specs.Prelude.{codes}
use Rattle.std.proofs.lemmas.List.{append-nil, length-append}
use Rattle.std.proofs.lemmas.List.Concat.{flat_map-append}
use Rattle.std.specs.List.{AllByRecursion, flat_map}
use Rattle.std.specs.Str.{bytes_eq}
use Rattle.container_model.proofs.Codec.{IsBytes, IsBytes-behind, chunks_spelled}
use Rattle.container_model.proofs.Deep.{IsBytes-front, all_len, bytes_of}
use Rattle.container_model.proofs.Read.{Atom, atom_stands_sized, atoms_again, atoms_and}
use Rattle.container_model.specs.Atoms.{atoms_in, is}
use Rattle.container_model.specs.Chunk.{Chunk, Run, ends, header_bytes, spell, spell_all}
use Rattle.container_model.specs.Deep.{Leaf, Whole, leaves}
use Rattle.container_model.specs.Sizes.{atom_front, inside, top}
use Rattle.mov_model.specs.Atoms.{Place, dinf, file, format, mdia, minf, moov, opens, stbl, trak, user_data}
use Rattle.mov_model.specs.Movie.{Movie, all_atoms, movie_of, spell_movie, split, top_run}
use Rattle.mov_model.specs.Parts.{first_of, track_of}
use Rattle.mov_model.specs.Support.{Readable}
use Rattle.mov_model.specs.Tables.{in_dinf, in_stbl, references, relocated, tables}
use Rattle.mov_model.specs.Widen.{growth, moov_end, past_moov, wide_at, wide_atom, wide_in, wide_moov, wide_table, widened, widened_file}
use Rattle.mov_model.proofs.Again.{Kid, at_moov, before_read, kids, kids_all_bytes, kids_alike, kids_both, kids_joined, kids_moved, kids_read, moov_left, mov, split_again, whole, whole_kids}
use Rattle.mov_model.proofs.Carry.{Sort, strip}
use Rattle.mov_model.proofs.Kids.{KidOk, kids_ok, track_from}
use Rattle.mov_model.proofs.WideDeep.{AllReady, AllWide, LongLeaves, Wide, all_wide, tables_of, wide_deep, wide_of}
use Rattle.mov_model.proofs.Why.{kids_supported}
use Rattle.sample_tables.specs.Tables.{is_short_table}

-- ---- an atom of moov with wide tables

at_id : (p : Place) (c : Chunk) (g : Place → Chunk → Chunk) (o : Option Place) → (wide_at g moov c o).id ≡ c.id
at_id p c g None = refl
at_id p c g (Some q) = refl

pub wide_id : (c : Chunk) → (wide_atom c).id ≡ c.id
unfolding wide_in
wide_id c = at_id moov c (wide_in 4) (opens moov c.id (take 4 c.body))

at_pad : (c : Chunk) (g : Place → Chunk → Chunk) (o : Option Place) → wide_at g moov (strip c) o ≡ strip (wide_at g moov c o)
at_pad c g None = refl
at_pad c g (Some q) = refl

pub wide_pad : (c : Chunk) → wide_atom (strip c) ≡ strip (wide_atom c)
unfolding wide_in
wide_pad c = at_pad c (wide_in 4) (opens moov c.id (take 4 c.body))

-- what is no track stays
pub wide_other : (c : Chunk) → is c (codes "trak") ≡ false → wide_atom c ≡ c
unfolding wide_in
wide_other c e = rw e refl

-- a sort of atoms that are no tracks
module _ (sort : Chunk → Bool) (s : Sort sort) where
  pub sort_wide : (c : Chunk) → sort (wide_atom c) ≡ sort c
  sort_wide c = go (is c (codes "trak")) refl
    where
      go : (t : Bool) → is c (codes "trak") ≡ t → sort (wide_atom c) ≡ sort c
      go true e =
          let same : is (wide_atom c) (codes "trak") ≡ true = ap (λ (x : List ℕ). bytes_eq x (codes "trak")) (wide_id c) ∙ e in
          Rattle.mov_model.proofs.Carry.track_not sort s (wide_atom c) same ∙ sym (Rattle.mov_model.proofs.Carry.track_not sort s c e)
      go false e = ap sort (wide_other c e)

  pub first_of_wide : (cs : List Chunk) → first_of sort (map wide_atom cs) ≡ first_of sort cs
  first_of_wide [] = refl
  first_of_wide (c ∷ cs) = ap (λ (t : Bool). cond t (wide_atom c ∷ []) (first_of sort (map wide_atom cs))) (sort_wide c) ∙ go (sort c) refl (first_of_wide cs)
    where
      go : (t : Bool) → sort c ≡ t → first_of sort (map wide_atom cs) ≡ first_of sort cs → cond t (wide_atom c ∷ []) (first_of sort (map wide_atom cs)) ≡ cond t (c ∷ []) (first_of sort cs)
      go true u again = ap (λ (x : Chunk). x ∷ []) (wide_other c (s.no_track c u))
      go false u again = again

pub tracks_wide : (cs : List Chunk) → flat_map track_of (map wide_atom cs) ≡ map wide_atom (flat_map track_of cs)
tracks_wide [] = refl
tracks_wide (c ∷ cs) =
    ap (λ (t : Bool). cond t (wide_atom c ∷ []) [] ++ flat_map track_of (map wide_atom cs)) (ap (λ (x : List ℕ). bytes_eq x (codes "trak")) (wide_id c)) ∙ go (is c (codes "trak")) (tracks_wide cs)
  where
    go : (t : Bool) → flat_map track_of (map wide_atom cs) ≡ map wide_atom (flat_map track_of cs) → cond t (wide_atom c ∷ []) [] ++ flat_map track_of (map wide_atom cs) ≡ map wide_atom (cond t (c ∷ []) [] ++ flat_map track_of cs)
    go true again = ap (λ (x : List Chunk). wide_atom c ∷ x) again
    go false again = again

-- ---- its tables

tables_wide_of : (ls : List (Leaf Place)) → tables_of (map wide_of ls) ≡ map wide_table (tables_of ls)
tables_wide_of [] = refl
tables_wide_of (l ∷ ls) = go l.place (tables_wide_of ls)
  where
    go : (p : Place) → tables_of (map wide_of ls) ≡ map wide_table (tables_of ls) → in_stbl p (Rattle.mov_model.specs.Widen.wide_leaf p l.chunk) ++ tables_of (map wide_of ls) ≡ map wide_table (in_stbl p l.chunk ++ tables_of ls)
    go file e = e
    go user_data e = e
    go moov e = e
    go trak e = e
    go mdia e = e
    go minf e = e
    go dinf e = e
    go stbl e = ap (λ (x : List Chunk). wide_table l.chunk ∷ x) e

abbrev refs_of : List (Leaf Place) → List Chunk
refs_of ls = flat_map (λ (l : Leaf Place). in_dinf l.place l.chunk) ls

refs_wide_of : (ls : List (Leaf Place)) → refs_of (map wide_of ls) ≡ refs_of ls
refs_wide_of [] = refl
refs_wide_of (l ∷ ls) = go l.place (refs_wide_of ls)
  where
    go : (p : Place) → refs_of (map wide_of ls) ≡ refs_of ls → in_dinf p (Rattle.mov_model.specs.Widen.wide_leaf p l.chunk) ++ refs_of (map wide_of ls) ≡ in_dinf p l.chunk ++ refs_of ls
    go file e = e
    go user_data e = e
    go moov e = e
    go trak e = e
    go mdia e = e
    go minf e = e
    go stbl e = e
    go dinf e = ap (λ (x : List Chunk). l.chunk ∷ x) e

pub wide_track_tables : (t : Chunk) → Wide 5 moov t (wide_atom t) → tables (wide_atom t) ≡ map wide_table (tables t)
wide_track_tables t w = ap tables_of w.leaves_are ∙ tables_wide_of (leaves format 5 moov t)

pub wide_track_references : (t : Chunk) → Wide 5 moov t (wide_atom t) → references (wide_atom t) ≡ references t
wide_track_references t w = ap refs_of w.leaves_are ∙ refs_wide_of (leaves format 5 moov t)

-- ---- the atoms of moov

long_all : (cs : List Chunk) → AllByRecursion KidOk cs → LongLeaves (flat_map (leaves format 5 moov) cs)
long_all [] k = tt
long_all (c ∷ cs) k =
    subst (AllByRecursion (λ c. is_short_table c ≡ false)) (sym (flat_map-append (λ (l : Leaf Place). in_stbl l.place l.chunk) (leaves format 5 moov c) (flat_map (leaves format 5 moov) cs)))
    (Rattle.container_model.proofs.Walk.all_join (λ c. is_short_table c ≡ false) (tables c) (tables_of (flat_map (leaves format 5 moov) cs)) (track_from c k.0).long_tables (long_all cs k.1))

each_wide : (cs : List Chunk) → AllByRecursion KidOk cs → AllByRecursion (Atom inside) cs → IsBytes (spell_all cs) → AllByRecursion (Whole format 5 moov) cs → length (spell_all cs) ≤ 2 ^ 26 → AllByRecursion (λ c. Wide 5 moov c (wide_atom c)) cs
each_wide [] k a b w s = tt
each_wide (c ∷ cs) k a b w s =
    let len = length-append (spell c) (spell_all cs) in
    let body : length c.body ≤ length (spell c) = omega (arith, length-append (header_bytes c.form c.id (length c.body)) (c.body ++ c.pad), length-append c.body c.pad) in (
      wide_deep 5 moov c (record { read = a.0; bytes = IsBytes-front (spell c) (spell_all cs) b; whole = w.0; tables = (track_from c k.0).long_tables; small = omega (arith, s, len, body) }),
      each_wide cs k.1 a.1 (IsBytes-behind (spell c) (spell_all cs) b) w.1 (omega (arith, s, len)),
    )

module _ (o : List ℕ) (bytes : IsBytes o) (sup : Readable o) (small : length (spell (movie_of o).movie) ≤ 2 ^ 26) where
  abbrev pub old : Movie
  old = mov o bytes sup

  abbrev ks : List Chunk
  ks = kids o bytes sup

  abbrev ws : List Chunk
  ws = map wide_atom (kids o bytes sup)

  body_small : length old.movie.body ≤ 2 ^ 26
  body_small = omega (arith, small, length-append (header_bytes old.movie.form old.movie.id (length old.movie.body)) (old.movie.body ++ old.movie.pad), length-append old.movie.body old.movie.pad)

  kids_spelled : IsBytes (spell_all ks)
  kids_spelled = IsBytes-front (spell_all ks) (moov_left o bytes sup) (kids_all_bytes o bytes sup)

  pub kids_small : length (spell_all ks) ≤ 2 ^ 26
  kids_small = omega (arith, body_small, ap length (kids_joined o bytes sup), length-append (spell_all ks) (moov_left o bytes sup))

  pub kids_are_ok : AllByRecursion KidOk ks
  kids_are_ok = kids_ok ks (kids_supported o sup)

  whole_ks : AllByRecursion (Whole format 5 moov) ks
  whole_ks = whole_kids ks sup.movie.tracks_end

  pub wide_each : AllByRecursion (λ c. Wide 5 moov c (wide_atom c)) ks
  wide_each = each_wide ks kids_are_ok (kids_read o bytes sup).0 kids_spelled whole_ks kids_small

  pub all_ready : AllReady 5 moov ks
  all_ready = record { read = (kids_read o bytes sup).0; bytes = kids_spelled; whole = whole_ks; tables = long_all ks kids_are_ok; small = kids_small }

  pub wide_all : AllWide 5 moov ks ws
  wide_all = all_wide 5 moov wide_atom (wide_deep 5 moov) ks all_ready

  pub ws_bytes : AllByRecursion (λ c. IsBytes c.body) ws
  ws_bytes = bytes_of ws [] (subst IsBytes (sym (append-nil (spell_all ws))) wide_all.bytes)

  module _ (f : ℕ → ℕ) where
    abbrev es : List Chunk
    es = map (relocated f) ws

    kids_f : AllByRecursion (Kid f) ws
    kids_f = kids_both f ws wide_all.read ws_bytes wide_all.whole

    pub es_read : AllByRecursion (Atom inside) es
    es_read = kids_moved f ws kids_f

    pub es_length : length (spell_all es) ≡ length (spell_all ws)
    es_length = all_len (relocated f) ws (kids_alike f ws kids_f)

    pub moov_wide : atoms_in (wide_moov f old) ≡ record { chunks = es; stop = ends; left = moov_left o bytes sup }
    moov_wide = chunks_spelled atom_front inside es (moov_left o bytes sup) (atoms_again inside es (moov_left o bytes sup) es_read (kids_read o bytes sup).1)

    pub wide_body_length : length (wide_moov f old).body ≡ length (spell_all ws) + length (moov_left o bytes sup)
    wide_body_length = omega (arith, length-append (spell_all es) (moov_left o bytes sup), es_length)

    wide_body_small : length (wide_moov f old).body + 16 < 2 ^ 32
    wide_body_small = omega (arith, wide_body_length, wide_all.shorter, kids_small, body_small, ap length (kids_joined o bytes sup), length-append (spell_all ks) (moov_left o bytes sup))

    abbrev pub now : Movie
    now = record old { movie = wide_moov f old }

    pub file_wide : top_run (spell_movie now) ≡ record { chunks = all_atoms now; stop = ends; left = old.left }
    file_wide =
        let stands = atom_stands_sized old.movie (spell_all old.behind ++ old.left) (wide_moov f old).body (spell_all old.behind ++ old.left) (at_moov o bytes sup).0 wide_body_small (at_moov o bytes sup).3 in
        chunks_spelled atom_front top (all_atoms now) old.left (atoms_and top old.before (now.movie ∷ old.behind) old.left (before_read o bytes sup) (top, stands, (at_moov o bytes sup).1))

    pub movie_wide : movie_of (spell_movie now) ≡ now
    movie_wide = ap (λ (r : Run). split r.chunks r.left) file_wide ∙ split_again old.before now.movie old.behind old.left (whole o bytes sup).2 (rw sup.movie.is_moov refl)
