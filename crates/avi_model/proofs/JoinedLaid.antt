-- An edit of fields and names lays the first form as the laws need it.
use Rattle.std.proofs.Common.{◌≡◌, ℕ, ◌+◌, ◌<◌, Bool, true, false, cond, List, [], ◌∷◌, length, map, refl, ap, subst, ◌∙◌, arith, ◌^◌}
use Rattle.std.specs.Prelude.{codes}
use Rattle.std.specs.Str.{bytes_eq}
use Rattle.std.specs.List.{flat_map, AllByRecursion}
use Rattle.std.proofs.lemmas.List.{length-append}
use Rattle.me_bytes.specs.Bytes.{IsBytes}
use Rattle.container_model.specs.Chunk.{Chunk, spell_all}
use Rattle.container_model.specs.Splice.{Cut, shift, Outside}
use Rattle.container_model.specs.Stood.{Stood, bare, stood, only, first_of}
use Rattle.container_model.specs.Units.{shut, units, was}
use Rattle.container_model.specs.Written.{Write}
use Rattle.container_model.proofs.Copied.{Later, bare_short, Moves_as_one, copied_move, moved_to}
use Rattle.container_model.proofs.Places.{Before, old_length}
use Rattle.container_model.proofs.Stood.{carried_to, first_all, first_map, moved_renewed, only_all, renew_at, renewed_stood}
use Rattle.carrier_model.specs.Info.{own_size, riff_fill}
use Rattle.carrier_model.specs.RiffForm.{pad_cut}
use Rattle.opendml_index.specs.Index.{move}
use Rattle.avi_model.specs.After.{Changes, goes, joined, list_cuts, pad_after, children_after}
use Rattle.avi_model.specs.Avi.{Avi, avi_of, has_id, hdrls, inner, is_movi, kids, old_indexes, strls, stream_indexes, top}
use Rattle.avi_model.specs.Index.{writes}
use Rattle.avi_model.specs.Named.{cell_of, ends_file, is_hdrl, is_strl, name_cuts, named}
use Rattle.avi_model.specs.NewFile.{new_cells}
use Rattle.avi_model.specs.Support.{Supported}
use Rattle.avi_model.proofs.Among.{all_among}
use Rattle.avi_model.proofs.Carries.{KidsFit, found_moved, go_twice, kids_moved}
use Rattle.avi_model.proofs.Children.{HdrlSmall, children_follow, moves_with, streams_follow}
use Rattle.avi_model.proofs.Frames.{opened}
use Rattle.avi_model.proofs.JoinedCuts.{chunks_again, lists_same, names_same}
use Rattle.avi_model.proofs.JoinedNodes.{named_small}
use Rattle.avi_model.proofs.Laid.{Carried}
use Rattle.avi_model.proofs.Levels.{Ended}
use Rattle.avi_model.proofs.NamedLists.{AreListed, children_listed, listed_fit}
use Rattle.avi_model.proofs.Past.{children_length}
use Rattle.avi_model.proofs.Read.{renewed_avi}
use Rattle.avi_model.proofs.Sound.{ended}
use Rattle.avi_model.proofs.Tables.{Apart, Opened, fill_unseen, hdrl_apart, index_apart, movi_apart, quiet_cells, quiet_edit, was_new}
use Rattle.avi_model.proofs.Types.{and_none, type_is}
use Rattle.avi_model.proofs.Walk.{IsRiffHead, ids_carried, kids_all, lists_carried}

module _ (o : List ℕ) (bytes : IsBytes o) (s : Supported o) (e : Changes) where
  abbrev a : Avi
  a = avi_of o

  abbrev ws : List Write
  ws = writes (move (goes (avi_of o) e)) o

  abbrev b : Avi
  b = renewed_avi (writes (move (goes (avi_of o) e)) o) (avi_of o)

  abbrev nb : Avi
  nb = named b e.names

  abbrev c1 : List Cut
  c1 = name_cuts (avi_of o) e.names

  abbrev c2 : List Cut
  c2 = list_cuts (avi_of o) e

  abbrev pub Free : ℕ → Type 0
  Free p = Outside (name_cuts (avi_of o) e.names) p × Outside (list_cuts (avi_of o) e) (shift (name_cuts (avi_of o) e.names) p)

  g : Ended (avi_of o)
  g = ended o bytes s

  op : Opened (avi_of o) [] (writes (move (goes (avi_of o) e)) o)
  op = opened o bytes s (move (goes (avi_of o) e)) []

  -- ---- with the numbers

  abbrev pub Still : List Stood → List Stood → Type 0
  Still xs ys = ys ≡ map (renew_at ws) xs

  abbrev still : ℕ → ℕ
  still q = q

  abbrev Any : ℕ → Type 0
  Any q = Unit {0}

  top_still : top b ≡ map (renew_at ws) (top a)
  top_still = renewed_stood ws 12 a.children

  any_moves : (xs : List Stood) → AllByRecursion (Moves_as_one still Any) xs
  any_moves [] = tt
  any_moves (x ∷ xs) = ((λ i lt. (tt, refl)), any_moves xs)

  pub hdrls_still : hdrls b ≡ map (renew_at ws) (hdrls a)
  hdrls_still = ap (λ (xs : List Stood). first_of (only is_hdrl xs)) top_still ∙ ap first_of (lists_carried still Any ws (codes "hdrl") (top a) op.top_heads op.top_types) ∙ first_map (renew_at ws) (only is_hdrl (top a))

  hdrl_heads : AllByRecursion IsRiffHead (hdrls a)
  hdrl_heads = all_among IsRiffHead (hdrls a) (λ x i. (Rattle.avi_model.proofs.Levels.hdrl_whole a g x i).2.head)

  strl_heads : AllByRecursion IsRiffHead (strls a)
  strl_heads = all_among IsRiffHead (strls a) (λ x i. (Rattle.avi_model.proofs.Levels.strl_whole a g x i).2.head)

  pub strls_still : strls b ≡ map (renew_at ws) (strls a)
  strls_still =
      ap (λ (xs : List Stood). only is_strl (flat_map kids xs)) hdrls_still ∙ ap (only is_strl) (kids_all still Any ws (hdrls a) hdrl_heads op.hdrl_opens (any_moves (hdrls a))).0
      ∙ lists_carried still Any ws (codes "strl") (flat_map kids (hdrls a)) op.hdrl_heads op.hdrl_types

  streams_still : stream_indexes b ≡ map (renew_at ws) (stream_indexes a)
  streams_still =
      ap (λ (xs : List Stood). only (has_id (codes "indx")) (flat_map kids xs)) strls_still ∙ ap (only (has_id (codes "indx"))) (kids_all still Any ws (strls a) strl_heads op.strl_opens (any_moves (strls a))).0
      ∙ ids_carried still Any ws (codes "indx") (flat_map kids (strls a))

  olds_still : only (has_id (codes "idx1")) (top b) ≡ map (renew_at ws) (only (has_id (codes "idx1")) (top a))
  olds_still = ap (only (has_id (codes "idx1"))) top_still ∙ ids_carried still Any ws (codes "idx1") (top a)

  movis_still : only is_movi (top b) ≡ map (renew_at ws) (only is_movi (top a))
  movis_still = ap (only is_movi) top_still ∙ lists_carried still Any ws (codes "movi") (top a) op.top_heads op.top_types

  -- ---- where the names put them

  abbrev pub Named : List Cut → List Stood → List Stood → Type 0
  Named cs xs ys = (ys ≡ map (moved_to (shift cs)) xs) × AllByRecursion (Moves_as_one (shift cs) (Outside cs)) xs

  abbrev end : ℕ
  end = 12 + length (spell_all b.children)

  hides : (p : Chunk → Bool) → Type 0
  hides p = (c : Chunk) → is_hdrl c ≡ true → p (bare c) ≡ false

  no_old : (c : Chunk) → is_hdrl c ≡ true → has_id (codes "idx1") (bare c) ≡ false
  no_old c i = rw (type_is (codes "hdrl") c i).id_is refl

  no_movi : (c : Chunk) → is_hdrl c ≡ true → is_movi (bare c) ≡ false
  no_movi c i = let t = type_is (codes "hdrl") c i in rw (t.id_is, t.type_is) (and_none (own_size c.form))

  -- the old chunks with the numbers, and those where the names put them
  named_carried : (xs ys zs : List Stood) → Still xs ys → Named (name_cuts b e.names) ys zs → Carried (shift c1) (Outside c1) ws xs zs
  named_carried xs ys zs still go =
      let m : Named c1 ys zs = subst (λ (cs : List Cut). Named cs ys zs) (names_same o bytes s (move (goes (avi_of o) e)) e) go in
      let n : AllByRecursion (Moves_as_one (shift c1) (Outside c1)) (map (renew_at ws) xs) = subst (AllByRecursion (Moves_as_one (shift c1) (Outside c1))) still m.1 in
      (m.0 ∙ ap (map (moved_to (shift c1))) still ∙ moved_renewed (shift c1) ws xs, all xs n)
    where
      all : (xs : List Stood) → AllByRecursion (Moves_as_one (shift c1) (Outside c1)) (map (renew_at ws) xs) → AllByRecursion (Moves_as_one (shift c1) (Outside c1)) xs
      all [] h = tt
      all (x ∷ xs) h = (
        (λ i lt. h.0 i (omega (arith, lt, Rattle.container_model.proofs.Deep.alike_len x.chunk (Rattle.container_model.proofs.Written.renew ws x.at x.chunk) (Rattle.container_model.proofs.Written.renew_alike ws x.at x.chunk)))),
        all xs h.1,
      )

  -- what is looked for in the form, where it sees no hdrl
  top_named : (p : Chunk → Bool) → ((c : Chunk) → is_hdrl c ≡ true → p (bare c) ≡ false) → only p (top b) ≡ map (renew_at ws) (only p (top a)) → Carried (shift c1) (Outside c1) ws (only p (top a)) (only p (top nb))
  top_named p none same =
      named_carried (only p (top a)) (only p (top b)) (only p (top nb)) same
      (moves_with e.names (name_cuts b e.names) 12 (12 + length (spell_all b.children)) (only p (top b)) (only p (top nb)) (children_follow e.names p none (ends_file b) 12 12 b.children (chunks_again o bytes s (move (goes (avi_of o) e)) e)))

  -- ---- and where the lists of fields put them from there

  pad_later : Later (12 + old_length (units shut (new_cells nb e.infos))) (pad_cut (8 + length (inner nb.children nb.left)) a.pad (pad_after b e))
  pad_later q lt = go (bytes_eq a.pad (pad_after b e))
    where
      low : q < 8 + length (inner nb.children nb.left)
      low = omega (arith, lt, children_length nb e.infos, length-append (spell_all nb.children) nb.left)

      go : (t : Bool) → Before q (cond t [] (record { at = 8 + length (inner nb.children nb.left); len = length a.pad; bytes = pad_after b e } ∷ []))
      go true = tt
      go false = (low, tt)

  abbrev pub Listed : List Cut → List Stood → List Stood → Type 0
  Listed cs xs ys = (ys ≡ map (moved_to (shift cs)) xs) × AllByRecursion (Moves_as_one (shift cs) (Outside cs)) xs

  top_listed : (p : Chunk → Bool) → Apart p → Listed c2 (only p (top nb)) (only p (top (joined b e)))
  top_listed p apart =
      let xs = new_cells nb e.infos in
      let m = copied_move p (riff_fill (ends_file nb)) (fill_unseen p apart (ends_file nb)) 12 xs (quiet_edit p apart e.infos (map cell_of nb.children) (quiet_cells p apart nb.children)) (pad_cut (8 + length (inner nb.children nb.left)) a.pad (pad_after b e)) pad_later in
      let is : only p (stood 12 (flat_map was xs)) ≡ only p (top nb) = ap (λ (cs : List Chunk). only p (stood 12 cs)) (was_new nb e.infos) in
      subst (λ (cs : List Cut). Listed cs (only p (top nb)) (only p (top (joined b e)))) (lists_same o bytes s (move (goes (avi_of o) e)) e)
      (subst (λ (ys : List Stood). Listed (list_cuts b e) ys (only p (top (joined b e)))) is m)

  pub hdrl_small : length (inner (children_after (renewed_avi (writes (move (goes (avi_of o) e)) o) (avi_of o)) e) (avi_of o).left) < 2 ^ 32
      → HdrlSmall e.names (ends_file (renewed_avi (writes (move (goes (avi_of o) e)) o) (avi_of o))) (renewed_avi (writes (move (goes (avi_of o) e)) o) (avi_of o)).children
  hdrl_small lt = named_small b e (chunks_again o bytes s (move (goes (avi_of o) e)) e) lt

  -- tables and essence go as one with the names
  pub names_olds : AllByRecursion (Moves_as_one (shift (name_cuts (avi_of o) e.names)) (Outside (name_cuts (avi_of o) e.names))) (old_indexes (avi_of o))
  names_olds = let p = has_id (codes "idx1") in first_all (Moves_as_one (shift c1) (Outside c1)) (only p (top a)) (top_named p no_old olds_still).1

  pub names_movis : AllByRecursion (Moves_as_one (shift (name_cuts (avi_of o) e.names)) (Outside (name_cuts (avi_of o) e.names))) (only is_movi (top (avi_of o)))
  names_movis = (top_named is_movi no_movi movis_still).1

  module _ (small : HdrlSmall e.names (ends_file (renewed_avi (writes (move (goes (avi_of o) e)) o) (avi_of o))) (renewed_avi (writes (move (goes (avi_of o) e)) o) (avi_of o)).children) where
    streams_named : Carried (shift c1) (Outside c1) ws (stream_indexes a) (stream_indexes nb)
    streams_named =
        named_carried (stream_indexes a) (stream_indexes b) (stream_indexes nb) streams_still
        (moves_with e.names (name_cuts b e.names) 12 (12 + length (spell_all b.children)) (stream_indexes b) (stream_indexes nb) (streams_follow e.names (ends_file b) 12 12 b.children (chunks_again o bytes s (move (goes (avi_of o) e)) e) small))

    pub names_streams : AllByRecursion (Moves_as_one (shift (name_cuts (avi_of o) e.names)) (Outside (name_cuts (avi_of o) e.names))) (stream_indexes (avi_of o))
    names_streams = streams_named.1

    pub hdrls_listed : Listed c2 (hdrls nb) (hdrls (joined b e))
    hdrls_listed =
        let m = top_listed is_hdrl hdrl_apart in
        (ap first_of m.0 ∙ first_map (moved_to (shift c2)) (only is_hdrl (top nb)), first_all (Moves_as_one (shift c2) (Outside c2)) (only is_hdrl (top nb)) m.1)

    pub nb_listed : AreListed e.names (hdrls nb) × AreListed e.names (strls nb)
    nb_listed = children_listed e.names (ends_file b) 12 b.children (chunks_again o bytes s (move (goes (avi_of o) e)) e) small

    fits : (xs : List Stood) → AreListed e.names xs → AllByRecursion KidsFit xs
    fits [] h = tt
    fits (x ∷ xs) h = (omega (arith, listed_fit x.at x.chunk h.0, bare_short x.chunk), fits xs h.1)

    pub strls_listed : Listed c2 (strls nb) (strls (joined b e))
    strls_listed =
        let k = kids_moved (shift c2) (Outside c2) (hdrls nb) (fits (hdrls nb) nb_listed.0) hdrls_listed.1 in
        (ap (λ (xs : List Stood). only is_strl (flat_map kids xs)) hdrls_listed.0 ∙ ap (only is_strl) k.0 ∙ found_moved is_strl (shift c2) (flat_map kids (hdrls nb)), only_all (Moves_as_one (shift c2) (Outside c2)) is_strl (flat_map kids (hdrls nb)) k.1)

    streams_listed : Listed c2 (stream_indexes nb) (stream_indexes (joined b e))
    streams_listed =
        let k = kids_moved (shift c2) (Outside c2) (strls nb) (fits (strls nb) nb_listed.1) strls_listed.1 in (
          ap (λ (xs : List Stood). only (has_id (codes "indx")) (flat_map kids xs)) strls_listed.0 ∙ ap (only (has_id (codes "indx"))) k.0 ∙ found_moved (has_id (codes "indx")) (shift c2) (flat_map kids (strls nb)),
          only_all (Moves_as_one (shift c2) (Outside c2)) (has_id (codes "indx")) (flat_map kids (strls nb)) k.1,
        )

    -- ---- both

    pub streams_go : Carried (goes (avi_of o) e) (λ p. Outside (name_cuts (avi_of o) e.names) p × Outside (list_cuts (avi_of o) e) (shift (name_cuts (avi_of o) e.names) p)) (writes (move (goes (avi_of o) e)) o) (stream_indexes (avi_of o)) (stream_indexes (joined b e))
    streams_go = go_twice (shift c1) (shift c2) (Outside c1) (Outside c2) ws (stream_indexes a) (stream_indexes nb) (stream_indexes (joined b e)) streams_named streams_listed.0 streams_listed.1

    pub movis_go : Carried (goes (avi_of o) e) (λ p. Outside (name_cuts (avi_of o) e.names) p × Outside (list_cuts (avi_of o) e) (shift (name_cuts (avi_of o) e.names) p)) (writes (move (goes (avi_of o) e)) o) (only is_movi (top (avi_of o))) (only is_movi (top (joined b e)))
    movis_go =
        let m = top_listed is_movi movi_apart in
        go_twice (shift c1) (shift c2) (Outside c1) (Outside c2) ws (only is_movi (top a)) (only is_movi (top nb)) (only is_movi (top (joined b e))) (top_named is_movi no_movi movis_still) m.0 m.1

    pub olds_go : Carried (goes (avi_of o) e) (λ p. Outside (name_cuts (avi_of o) e.names) p × Outside (list_cuts (avi_of o) e) (shift (name_cuts (avi_of o) e.names) p)) (writes (move (goes (avi_of o) e)) o) (old_indexes (avi_of o)) (old_indexes (joined b e))
    olds_go =
        let p = has_id (codes "idx1") in
        let m = top_listed p index_apart in
        let k = go_twice (shift c1) (shift c2) (Outside c1) (Outside c2) ws (only p (top a)) (only p (top nb)) (only p (top (joined b e))) (top_named p no_old olds_still) m.0 m.1 in
        (ap first_of k.0 ∙ first_map (carried_to (goes a e) ws) (only p (top a)), first_all (Moves_as_one (goes a e) Free) (only p (top a)) k.1)
