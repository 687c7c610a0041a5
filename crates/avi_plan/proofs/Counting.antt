-- How many parts the new file has: as many as the planner counts.
use Rattle.std.proofs.Common.{◌≡◌, ◌∙◌, ◌⊎◌, ℕ, suc, ◌+◌, Bool, true, false, cond, ltb, List, [], ◌∷◌, length, map, refl, sym, ap, arith, inl, inr}
use Rattle.std.specs.Prelude.{◌&&◌, codes}
use Rattle.std.specs.List.{AllByRecursion}
use Rattle.container_model.specs.Chunk.{Chunk, Run, pad_len, spell, spell_all}
use Rattle.container_model.specs.Items.{is_nil}
use Rattle.container_model.specs.Stood.{Stood, bare, only, stood}
use Rattle.container_model.specs.Units.{Cell, edited, gap, kept, lacks_pad, lay, shut, units}
use Rattle.container_model.specs.Written.{Write}
use Rattle.container_model.proofs.Written.{renew, renewed}
use Rattle.carrier_model.specs.Cells.{counted}
use Rattle.carrier_model.specs.Info.{info, is_type, list_run, riff_fill}
use Rattle.carrier_model.specs.Names.{name_cells}
use Rattle.carrier_model.proofs.Renewed.{renewed_cells}
use Rattle.avi_model.specs.Named.{Names, cell_of, ends_list, is_hdrl, is_named, is_strl, new_names, strl_fill, strl_pieces}
use Rattle.avi_model.specs.Streams.{hdrl_parts, kids_parts, strl_laid, strl_parts}
use Rattle.avi_model.specs.Support.{count_kids}
use Rattle.avi_model.proofs.Alike.{Alike}
use Rattle.avi_model.proofs.JoinedParts.{head_kids}
use Rattle.avi_model.proofs.NamesRenewed.{NamesAlone, names_renewed}
use Rattle.avi_model.proofs.NamesStay.{ChildrenStay, KidStays, KidsStay, RunStays, nil_stays, renew_long, renew_spell}
use Rattle.unit_plan.specs.Rows.{IsPartCount, Outcome, none, row}
use Rattle.unit_plan.specs.Shapes.{Shape, parts_in, shape_of, stays}
use Rattle.unit_plan.proofs.Outcomes.{cells_told}
use Rattle.avi_plan.specs.Row.{part_count}

-- ---- a list by its shapes

-- what is laid of cells with the same shapes counts for as many parts
pub shapes_count : (g : Chunk → ℕ) → IsPartCount g → (t : Bool) (xs ys : List Cell) → map (shape_of g) xs ≡ map (shape_of g) ys → parts_in g (lay (riff_fill t) (units shut xs)) ≡ parts_in g (lay (riff_fill t) (units shut ys))
shapes_count g count t xs ys e =
    sym (ap (λ (o : Outcome). o.parts) (cells_told g t count 0 xs)) ∙ ap (λ (ss : List Shape). (row t 0 none ss).parts) e ∙ ap (λ (o : Outcome). o.parts) (cells_told g t count 0 ys)

part_one : (c d : Chunk) → (c ≡ d) ⊎ ((info.is c ≡ false) × (info.is d ≡ false)) → part_count c ≡ part_count d
part_one c d (inl e) = ap part_count e
part_one c d (inr q) = ap (λ (t : Bool). length (cond t (c ∷ (list_run c).chunks) (c ∷ []))) q.0 ∙ sym (ap (λ (t : Bool). length (cond t (d ∷ (list_run d).chunks) (d ∷ []))) q.1)

pub alike_shapes : (xs ys : List Cell) → Alike xs ys → map (shape_of part_count) xs ≡ map (shape_of part_count) ys
alike_shapes [] [] h = refl
alike_shapes (kept c ∷ xs) (kept d ∷ ys) h =
    ap (λ (n : ℕ). stays n (lacks_pad c) (part_count c) ∷ map (shape_of part_count) xs) h.0.long
    ∙ ap (λ (t : Bool). stays (length (spell d)) t (part_count c) ∷ map (shape_of part_count) xs) h.0.lacks
    ∙ ap (λ (k : ℕ). stays (length (spell d)) (lacks_pad d) k ∷ map (shape_of part_count) xs) (part_one c d h.0.list)
    ∙ ap (λ (ss : List Shape). stays (length (spell d)) (lacks_pad d) (part_count d) ∷ ss) (alike_shapes xs ys h.1)
alike_shapes (gap c ∷ xs) (gap d ∷ ys) h = ap (λ (z : Chunk). shape_of part_count (gap z) ∷ map (shape_of part_count) xs) h.0 ∙ ap (λ (ss : List Shape). shape_of part_count (gap d) ∷ ss) (alike_shapes xs ys h.1)
alike_shapes (edited o w ∷ xs) (edited p m ∷ ys) h =
    ap (λ (z : List Chunk). shape_of part_count (edited z w) ∷ map (shape_of part_count) xs) h.0.0 ∙ ap (λ (z : List Chunk). shape_of part_count (edited p z) ∷ map (shape_of part_count) xs) h.0.1
    ∙ ap (λ (ss : List Shape). shape_of part_count (edited p m) ∷ ss) (alike_shapes xs ys h.1)
alike_shapes _ _ h = absurd h

-- parts are the chunks and those of the lists of fields
pub parts_are : (at : ℕ) (cs : List Chunk) → parts_in part_count cs ≡ length cs + count_kids (only (is_type (codes "INFO")) (stood at cs))
parts_are at [] = refl
parts_are at (c ∷ cs) = go (is_type (codes "INFO") c) (parts_are (at + length (spell c)) cs)
  where
    go : (t : Bool) → parts_in part_count cs ≡ length cs + count_kids (only (is_type (codes "INFO")) (stood (at + length (spell c)) cs))
        → length (cond t (c ∷ (list_run c).chunks) (c ∷ [])) + parts_in part_count cs ≡ length (c ∷ cs) + count_kids (cond t (record { at = at; chunk = bare c } ∷ only (is_type (codes "INFO")) (stood (at + length (spell c)) cs)) (only (is_type (codes "INFO")) (stood (at + length (spell c)) cs)))
    go true again = omega (arith, again)
    go false again = omega (arith, again)

abbrev each : Chunk → ℕ
each c = 1

each_count : IsPartCount each
each_count = record { pads = λ c. refl; padding = λ body. refl }

each_length : (cs : List Chunk) → parts_in each cs ≡ length cs
each_length [] = refl
each_length (c ∷ cs) = omega (arith, each_length cs)

module _ (ws : List Write) where
  pub length_renewed : (at : ℕ) (cs : List Chunk) → length (renewed ws at cs) ≡ length cs
  length_renewed at [] = refl
  length_renewed at (c ∷ cs) = omega (arith, length_renewed (at + length (spell c)) cs)

  -- chunks of which each is read again
  pub others_count : (at to : ℕ) (cs : List Chunk) → AllByRecursion (λ (x : Stood). RunStays ws x.at x.chunk) (stood at cs) → count_kids (stood to (renewed ws at cs)) ≡ count_kids (stood at cs)
  others_count at to [] h = refl
  others_count at to (c ∷ cs) h =
      omega (
        arith,
        ap (λ (r : Run). length r.chunks) h.0,
        length_renewed (at + 12) (list_run c).chunks,
        others_count (at + length (spell c)) (to + length (spell (renew ws at c))) cs h.1,
      )

  renewed_shapes : (at : ℕ) (xs : List Cell) → map (shape_of each) (renewed_cells ws at xs) ≡ map (shape_of each) xs
  renewed_shapes at [] = refl
  renewed_shapes at (kept c ∷ xs) =
      ap (λ (n : ℕ). stays n (lacks_pad (renew ws at c)) 1 ∷ map (shape_of each) (renewed_cells ws (at + length (spell c)) xs)) (renew_spell ws at c)
      ∙ ap (λ (n : ℕ). stays (length (spell c)) (ltb (length c.pad) (pad_len c.form n)) 1 ∷ map (shape_of each) (renewed_cells ws (at + length (spell c)) xs)) (renew_long ws at c)
      ∙ ap (λ (ss : List Shape). stays (length (spell c)) (lacks_pad c) 1 ∷ ss) (renewed_shapes (at + length (spell c)) xs)
  renewed_shapes at (gap c ∷ xs) = ap (λ (ss : List Shape). shape_of each (gap c) ∷ ss) (renewed_shapes (at + length (spell c)) xs)
  renewed_shapes at (edited old now ∷ xs) = ap (λ (ss : List Shape). shape_of each (edited old now) ∷ ss) (renewed_shapes (at + length (spell_all old)) xs)

  module _ (e : Names) where
    laid_count : (last : Bool) (new : List Chunk) (at : ℕ) (c : Chunk) → RunStays ws at c → NamesAlone ws (at + 12) (list_run c).chunks → length (strl_laid last new (renew ws at c)) ≡ length (strl_laid last new c)
    laid_count last new at c run alone =
        let xs = name_cells new (map cell_of (list_run c).chunks) in
        ap (λ (r : Run). length (lay (riff_fill (last && (is_nil r.left && is_nil c.pad))) (strl_pieces new (renew ws at c)))) run
        ∙ ap (λ (r : Run). length (lay (strl_fill last c) (units shut (name_cells new (map cell_of r.chunks))))) run
        ∙ ap (λ (ys : List Cell). length (lay (strl_fill last c) (units shut ys))) (names_renewed ws new (at + 12) (list_run c).chunks alone)
        ∙ sym (each_length (lay (strl_fill last c) (units shut (renewed_cells ws (at + 12) xs))))
        ∙ shapes_count each each_count (last && ends_list c) (renewed_cells ws (at + 12) xs) xs (renewed_shapes (at + 12) xs)
        ∙ each_length (lay (strl_fill last c) (units shut xs))

    kid_again : (last : Bool) (n at : ℕ) (c : Chunk) → KidStays ws e at c → cond (is_strl (renew ws at c)) (strl_parts e last n (renew ws at c)) 0 ≡ cond (is_strl c) (strl_parts e last n c) 0
    kid_again last n at c st = ap (λ (t : Bool). cond t (strl_parts e last n (renew ws at c)) 0) st.typed ∙ go (is_strl c) refl (is_named e n)
      where
        go : (t : Bool) → is_strl c ≡ t → (u : Bool)
            → cond t (length (cond u (strl_laid last (new_names e n) (renew ws at c)) (list_run (renew ws at c)).chunks)) 0 ≡ cond t (length (cond u (strl_laid last (new_names e n) c) (list_run c).chunks)) 0
        go true i true = let o = st.opens i in laid_count last (new_names e n) at c o.0 o.1.0
        go true i false = ap (λ (r : Run). length r.chunks) (st.opens i).0 ∙ length_renewed (at + 12) (list_run c).chunks
        go false i u = refl

    kids_again : (ends : Bool) (n at : ℕ) (cs : List Chunk) → KidsStay ws e at cs → kids_parts e ends n (renewed ws at cs) ≡ kids_parts e ends n cs
    kids_again ends n at [] st = refl
    kids_again ends n at (c ∷ cs) st =
        let d = renew ws at c in
        let next = at + length (spell c) in
        let rest = renewed ws next cs in
        ap (λ (t : Bool). cond (is_strl d) (strl_parts e (ends && t) n d) 0 + kids_parts e ends (counted is_strl n d) rest) (nil_stays ws e next cs)
        ∙ ap (λ (t : Bool). cond (is_strl d) (strl_parts e (ends && is_nil cs) n d) 0 + kids_parts e ends (cond t (suc n) n) rest) st.0.typed
        ∙ omega (arith, kid_again (ends && is_nil cs) n at c st.0, kids_again ends (counted is_strl n c) next cs st.1)

    -- ---- the first hdrl, with numbers written over the tables

    pub heads_again : (at : ℕ) (cs : List Chunk) → ChildrenStay ws e at cs → head_kids (renewed ws at cs) ≡ head_kids cs
    heads_again at [] st = refl
    heads_again at (c ∷ cs) st =
        ap (λ (t : Bool). cond t (length (list_run (renew ws at c)).chunks) (head_kids (renewed ws (at + length (spell c)) cs))) st.0
        ∙ go (is_hdrl c) refl (λ i. heads_again (at + length (spell c)) cs (st.1.1 i))
      where
        go : (t : Bool) → is_hdrl c ≡ t → (is_hdrl c ≡ false → head_kids (renewed ws (at + length (spell c)) cs) ≡ head_kids cs)
            → cond t (length (list_run (renew ws at c)).chunks) (head_kids (renewed ws (at + length (spell c)) cs)) ≡ cond t (length (list_run c).chunks) (head_kids cs)
        go true i again = ap (λ (r : Run). length r.chunks) (st.1.0 i).run ∙ length_renewed (at + 12) (list_run c).chunks
        go false i again = again i

    pub streams_again : (last : Bool) (at : ℕ) (cs : List Chunk) → ChildrenStay ws e at cs → hdrl_parts e last (renewed ws at cs) ≡ hdrl_parts e last cs
    streams_again last at [] st = refl
    streams_again last at (c ∷ cs) st =
        let d = renew ws at c in
        let next = at + length (spell c) in
        let rest = renewed ws next cs in
        ap (λ (t : Bool). cond (is_hdrl d) (kids_parts e ((last && t) && ends_list d) 0 (list_run d).chunks) (hdrl_parts e last rest)) (nil_stays ws e next cs)
        ∙ ap (λ (t : Bool). cond t (kids_parts e ((last && is_nil cs) && ends_list d) 0 (list_run d).chunks) (hdrl_parts e last rest)) st.0
        ∙ go (is_hdrl c) refl (λ i. streams_again last next cs (st.1.1 i))
      where
        go : (t : Bool) → is_hdrl c ≡ t → (is_hdrl c ≡ false → hdrl_parts e last (renewed ws (at + length (spell c)) cs) ≡ hdrl_parts e last cs)
            → cond t (kids_parts e ((last && is_nil cs) && ends_list (renew ws at c)) 0 (list_run (renew ws at c)).chunks) (hdrl_parts e last (renewed ws (at + length (spell c)) cs))
            ≡ cond t (kids_parts e ((last && is_nil cs) && ends_list c) 0 (list_run c).chunks) (hdrl_parts e last cs)
        go true i again =
            let o = st.1.0 i in
            let u = last && is_nil cs in
            ap (λ (r : Run). kids_parts e (u && (is_nil r.left && is_nil c.pad)) 0 r.chunks) o.run ∙ kids_again (u && ends_list c) 0 (at + 12) (list_run c).chunks o.kids
        go false i again = again i
