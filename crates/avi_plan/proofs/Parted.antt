-- The new file has the parts that the planner counts, and its lists of fields are those of the edit.
use Rattle.std.proofs.Common.{◌≡◌, ◌∙◌, ◌⊎◌, ℕ, ◌+◌, ◌^◌, Bool, true, false, cond, ltb, List, [], ◌∷◌, ◌++◌, length, map, Option, Some, refl, sym, ap, subst, arith, inl, inr}
use Rattle.std.specs.Prelude.{codes}
use Rattle.std.specs.List.{AllByRecursion, flat_map}
use Rattle.me_bytes.specs.Bytes.{IsBytes}
use Rattle.part_tree.specs.Large.{Size, first_above, limited}
use Rattle.container_model.specs.Chunk.{Chunk, spell}
use Rattle.container_model.specs.Stood.{Stood, bare, only, stood}
use Rattle.container_model.specs.Tests.{first}
use Rattle.container_model.specs.Units.{Cell, edited, gap, kept, lay, live, shut, units}
use Rattle.container_model.specs.Written.{Write}
use Rattle.carrier_model.specs.Info.{info, info_items, is_type, riff_fill}
use Rattle.carrier_model.specs.Lists.{lists_act}
use Rattle.carrier_model.proofs.Cells.{live_acted}
use Rattle.carrier_model.proofs.Info.{padding_no_list}
use Rattle.opendml_index.specs.Index.{How, move}
use Rattle.avi_model.specs.After.{Changes, avi_after, children_after, goes, joined, parts_after, renumbered_avi}
use Rattle.avi_model.specs.Avi.{Avi, avi_of, form_of, hdrls, others_at}
use Rattle.avi_model.specs.Index.{writes}
use Rattle.avi_model.specs.Large.{at_most}
use Rattle.avi_model.specs.Named.{cell_of, children_named, ends_file, named}
use Rattle.avi_model.specs.NewFile.{Items, new_cells, new_children}
use Rattle.avi_model.specs.NewFile.{home as behind_hdrl}
use Rattle.avi_model.specs.Streams.{hdrl_parts, stream_parts}
use Rattle.avi_model.specs.Support.{Supported, count_kids, infos, list_limit}
use Rattle.avi_model.proofs.Alike.{Alike, edit_alike}
use Rattle.avi_model.proofs.Among.{all_among}
use Rattle.avi_model.proofs.Children.{AreChildren}
use Rattle.avi_model.proofs.Clear.{further_open}
use Rattle.avi_model.proofs.Cuts.{ends_same}
use Rattle.avi_model.proofs.Edit.{seen, solid}
use Rattle.avi_model.proofs.Frames.{again as read_again, alone}
use Rattle.avi_model.proofs.JoinedCuts.{chunks_again}
use Rattle.avi_model.proofs.JoinedParts.{heads_are}
use Rattle.avi_model.proofs.Levels.{Ended, further_whole}
use Rattle.avi_model.proofs.Lies.{Lies}
use Rattle.avi_model.proofs.NamedAlike.{children_alike}
use Rattle.avi_model.proofs.NamesClear.{children_stay, run_stays}
use Rattle.avi_model.proofs.NamesSet.{supported_children}
use Rattle.avi_model.proofs.NamesStay.{ChildrenStay, RunStays}
use Rattle.avi_model.proofs.Read.{others_place, renewed_avi}
use Rattle.avi_model.proofs.Sound.{ended, writes_lie}
use Rattle.unit_plan.specs.Shapes.{parts_in}
use Rattle.avi_plan.specs.Comes.{bodies, list_checks}
use Rattle.avi_plan.specs.Row.{part_count}
use Rattle.avi_plan.proofs.Coming.{counts_parts}
use Rattle.avi_plan.proofs.Counting.{alike_shapes, heads_again, others_count, parts_are, shapes_count, streams_again}
use Rattle.avi_plan.proofs.Swapped.{Swap}

-- ---- the lists of fields that cells leave

abbrev bodies_of : Chunk → List (List ℕ)
bodies_of c = cond (is_type (codes "INFO") c) (c.body ∷ []) []

no_body : (c : Chunk) → info.is c ≡ false → bodies_of c ≡ []
no_body c i = ap (λ (t : Bool). cond t (c.body ∷ []) []) i

alike_bodies : (xs ys : List Cell) → Alike xs ys → flat_map bodies_of (flat_map live xs) ≡ flat_map bodies_of (flat_map live ys)
alike_bodies [] [] h = refl
alike_bodies (kept c ∷ xs) (kept d ∷ ys) h = go h.0.list (alike_bodies xs ys h.1)
  where
    go : (c ≡ d) ⊎ ((info.is c ≡ false) × (info.is d ≡ false)) → flat_map bodies_of (flat_map live xs) ≡ flat_map bodies_of (flat_map live ys) → bodies_of c ++ flat_map bodies_of (flat_map live xs) ≡ bodies_of d ++ flat_map bodies_of (flat_map live ys)
    go (inl e) g = ap (λ (z : List (List ℕ)). bodies_of c ++ z) g ∙ ap (λ (z : Chunk). bodies_of z ++ flat_map bodies_of (flat_map live ys)) e
    go (inr q) g = ap (λ (z : List (List ℕ)). z ++ flat_map bodies_of (flat_map live xs)) (no_body c q.0) ∙ g ∙ sym (ap (λ (z : List (List ℕ)). z ++ flat_map bodies_of (flat_map live ys)) (no_body d q.1))
alike_bodies (gap c ∷ xs) (gap d ∷ ys) h = alike_bodies xs ys h.1
alike_bodies (edited o w ∷ xs) (edited p m ∷ ys) h = subst (λ (z : List Chunk). flat_map bodies_of (w ++ flat_map live xs) ≡ flat_map bodies_of (z ++ flat_map live ys)) h.0.1 (both w (alike_bodies xs ys h.1))
  where
    both : (w : List Chunk) → flat_map bodies_of (flat_map live xs) ≡ flat_map bodies_of (flat_map live ys) → flat_map bodies_of (w ++ flat_map live xs) ≡ flat_map bodies_of (w ++ flat_map live ys)
    both [] e = e
    both (c ∷ cs) e = ap (λ (z : List (List ℕ)). bodies_of c ++ z) (both cs e)
alike_bodies _ _ h = absurd h

both_bodies : (w a b : List Chunk) → flat_map bodies_of a ≡ flat_map bodies_of b → flat_map bodies_of (w ++ a) ≡ flat_map bodies_of (w ++ b)
both_bodies [] a b e = e
both_bodies (c ∷ w) a b e = ap (λ (z : List (List ℕ)). bodies_of c ++ z) (both_bodies w a b e)

swap_bodies : (h k : Chunk) (n : ℕ) → info.is h ≡ false → info.is k ≡ false → (xs ys : List Cell) → Swap h k n xs ys → flat_map bodies_of (flat_map live xs) ≡ flat_map bodies_of (flat_map live ys)
swap_bodies h k n plain none [] ys q = absurd q
swap_bodies h k n plain none (x ∷ xs) [] q = absurd q
swap_bodies h k n plain none (x ∷ xs) (y ∷ ys) (inl q) =
    ap (λ (z : Cell). flat_map bodies_of (live z ++ flat_map live xs)) q.1
    ∙ ap (λ (z : List (List ℕ)). z ++ flat_map bodies_of (flat_map live xs)) (no_body h plain) ∙ ap (λ (zs : List Cell). flat_map bodies_of (flat_map live zs)) q.3
    ∙ sym (ap (λ (z : List (List ℕ)). z ++ flat_map bodies_of (flat_map live ys)) (no_body k none))
    ∙ sym (ap (λ (z : Cell). flat_map bodies_of (live z ++ flat_map live ys)) q.2)
swap_bodies h k n plain none (x ∷ xs) (y ∷ ys) (inr q) =
    ap (λ (z : Cell). flat_map bodies_of (live z ++ flat_map live xs)) q.2 ∙ both_bodies (live y) (flat_map live xs) (flat_map live ys) (swap_bodies h k q.0 plain none xs ys q.4)

laid_bodies : (v : Avi) (e : Items) → bodies (is_type (codes "INFO")) (new_children v e) ≡ flat_map bodies_of (flat_map live (new_cells v e))
laid_bodies v e =
    seen v e bodies_of (λ c. refl) (λ c p. no_body c (padding_no_list (codes "INFO") c p))
    ∙ sym (ap (flat_map bodies_of) (live_acted (lists_act info info_items behind_hdrl e (solid v e)) (map cell_of v.children)))

-- what is tested of them
checks_sizes : (at : ℕ) (cs : List Chunk) → first (map (λ (x : Stood). at_most list_limit (length x.chunk.body)) (only (is_type (codes "INFO")) (stood at cs))) ≡ first_above (map (λ (x : List ℕ). limited (2 ^ 24) (length x)) (bodies (is_type (codes "INFO")) cs))
checks_sizes at [] = refl
checks_sizes at (c ∷ cs) = go (is_type (codes "INFO") c) (checks_sizes (at + length (spell c)) cs)
  where
    rest : Option Size
    rest = first_above (map (λ (x : List ℕ). limited (2 ^ 24) (length x)) (bodies (is_type (codes "INFO")) cs))

    go : (t : Bool) → first (map (λ (x : Stood). at_most list_limit (length x.chunk.body)) (only (is_type (codes "INFO")) (stood (at + length (spell c)) cs))) ≡ first_above (map (λ (x : List ℕ). limited (2 ^ 24) (length x)) (bodies (is_type (codes "INFO")) cs))
        → first (map (λ (x : Stood). at_most list_limit (length x.chunk.body)) (cond t (record { at = at; chunk = bare c } ∷ only (is_type (codes "INFO")) (stood (at + length (spell c)) cs)) (only (is_type (codes "INFO")) (stood (at + length (spell c)) cs))))
        ≡ first_above (map (λ (x : List ℕ). limited (2 ^ 24) (length x)) (cond t (c.body ∷ []) [] ++ bodies (is_type (codes "INFO")) cs))
    go true again = ap (λ (o : Option Size). cond (ltb 16777216 (length c.body)) (Some (limited 16777216 (length c.body))) o) again
    go false again = again

-- ---- of a file

module _ (b : List ℕ) (bytes : IsBytes b) (s : Supported b) (c : Changes) where
  abbrev a : Avi
  a = avi_of b

  abbrev how : How
  how = move (goes (avi_of b) c)

  abbrev ws : List Write
  ws = writes (move (goes (avi_of b) c)) b

  abbrev rb : Avi
  rb = renewed_avi (writes (move (goes (avi_of b) c)) b) (avi_of b)

  abbrev na : Avi
  na = named (avi_of b) c.names

  abbrev nb : Avi
  nb = named (renewed_avi (writes (move (goes (avi_of b) c)) b) (avi_of b)) c.names

  g : Ended (avi_of b)
  g = ended b bytes s

  lie : AllByRecursion (λ w. Lies (avi_of b) w.at (length w.bytes)) (writes (move (goes (avi_of b) c)) b)
  lie = writes_lie b bytes s how

  old_children : AreChildren (avi_of b).children
  old_children = supported_children b bytes s

  new_children_are : AreChildren (renewed_avi (writes (move (goes (avi_of b) c)) b) (avi_of b)).children
  new_children_are = chunks_again b bytes s how c

  stay : ChildrenStay (writes (move (goes (avi_of b) c)) b) c.names 12 (avi_of b).children
  stay = children_stay a g ws lie c.names 12 a.children (λ y j. j) (λ y j. j)

  cells_alike : Alike (map cell_of nb.children) (map cell_of na.children)
  cells_alike =
      subst (λ (t : Bool). Alike (map cell_of (children_named c.names t rb.children)) (map cell_of na.children)) (sym (ends_same ws a))
      (children_alike ws c.names (ends_file a) 12 a.children (alone b bytes s how) stay old_children.1 new_children_are.1)

  edited_alike : Alike (new_cells nb c.infos) (new_cells na c.infos)
  edited_alike = edit_alike c.infos (map cell_of nb.children) (map cell_of na.children) cells_alike

  after_is : avi_after b c ≡ joined rb c
  after_is = ap (λ (x : Avi). joined x c) (read_again b bytes s how)

  -- ---- the lists

  pub lists_told : (h k : Chunk) (n : ℕ) → info.is h ≡ false → info.is k ≡ false → Swap h k n (new_cells (avi_of b) c.infos) (new_cells (named (avi_of b) c.names) c.infos)
      → first (list_checks b c) ≡ first_above (map (λ (x : List ℕ). limited (2 ^ 24) (length x)) (bodies (is_type (codes "INFO")) (new_children (avi_of b) c.infos)))
  lists_told h k n plain none swap =
      ap (λ (x : Avi). first (map (λ (x : Stood). at_most list_limit (length x.chunk.body)) (infos x))) after_is
      ∙ checks_sizes 12 (children_after rb c)
      ∙ ap (λ (x : List (List ℕ)). first_above (map (λ (x : List ℕ). limited (2 ^ 24) (length x)) x))
      (laid_bodies nb c.infos ∙ alike_bodies (new_cells nb c.infos) (new_cells na c.infos) edited_alike ∙ sym (swap_bodies h k n plain none (new_cells a c.infos) (new_cells na c.infos) swap) ∙ sym (laid_bodies a c.infos))

  -- ---- the parts

  form_parts : parts_in part_count (children_after rb c) ≡ parts_in part_count (children_after a c)
  form_parts =
      ap (λ (t : Bool). parts_in part_count (lay (riff_fill t) (units shut (new_cells nb c.infos)))) (ends_same ws a)
      ∙ shapes_count part_count counts_parts (ends_file a) (new_cells nb c.infos) (new_cells na c.infos) (alike_shapes (new_cells nb c.infos) (new_cells na c.infos) edited_alike)

  others_same : count_kids (others_at rb) ≡ count_kids (others_at a)
  others_same =
      others_count ws (others_place a) (length (spell (form_of rb))) a.others
      (all_among (λ (x : Stood). RunStays ws x.at x.chunk) (others_at a) (λ x i. run_stays ws x (further_whole a g x i).head (further_open a g ws lie x i)))

  heads_same : count_kids (hdrls rb) ≡ count_kids (hdrls a)
  heads_same = heads_are 12 rb.children ∙ heads_again ws c.names 12 a.children stay ∙ sym (heads_are 12 a.children)

  streams_same : stream_parts rb c.names ≡ stream_parts a c.names
  streams_same = ap (λ (t : Bool). hdrl_parts c.names t rb.children) (ends_same ws a) ∙ streams_again ws c.names (ends_file a) 12 a.children stay

  pub parts_told : parts_after (renumbered_avi b c) c ≡ parts_in part_count (children_after a c) + (count_kids (hdrls a) + (stream_parts a c.names + count_kids (others_at a)))
  parts_told =
      ap (λ (x : Avi). parts_after x c) (read_again b bytes s how)
      ∙ omega (
        arith,
        heads_same,
        streams_same,
        others_same,
        form_parts,
        parts_are 12 (children_after rb c),
      )
