-- The new file has as many parts as are counted, where 32 bits hold the size of its first form.
use Rattle.std.proofs.Common.{◌≡◌, ℕ, ◌+◌, ◌^◌, ◌<◌, Bool, true, false, cond, List, [], ◌∷◌, ◌++◌, length, refl, sym, ap, ◌∙◌, arith}
use Rattle.std.specs.Prelude.{◌&&◌, codes}
use Rattle.std.specs.List.{flat_map}
use Rattle.std.proofs.lemmas.List.{append-nil, length-append}
use Rattle.me_bytes.specs.Bytes.{IsBytes}
use Rattle.container_model.specs.Chunk.{Chunk, Run, spell, spell_all}
use Rattle.container_model.specs.Items.{is_nil}
use Rattle.container_model.specs.Splice.{shift}
use Rattle.container_model.specs.Stood.{Stood, bare, stood, only, first_of}
use Rattle.carrier_model.specs.Cells.{counted}
use Rattle.carrier_model.specs.Info.{list_run}
use Rattle.opendml_index.specs.Index.{move}
use Rattle.avi_model.specs.After.{Changes, goes, joined, list_cuts, parts_after}
use Rattle.avi_model.specs.Avi.{Avi, avi_of, form_of, hdrls, kids, strls}
use Rattle.avi_model.specs.Index.{writes}
use Rattle.avi_model.specs.Named.{Names, children_named, ends_file, ends_list, hdrl_named, is_hdrl, is_named, is_strl, kid_named, kids_named, named, names_after, new_names, strl_named}
use Rattle.avi_model.specs.Streams.{hdrl_parts, kids_parts, strl_laid, stream_parts}
use Rattle.avi_model.specs.Support.{Supported, count_kids, infos, parts}
use Rattle.avi_model.proofs.Children.{AreChildren, HdrlSmall, behind_one, kids_of}
use Rattle.avi_model.proofs.JoinedCuts.{chunks_again}
use Rattle.avi_model.proofs.JoinedFew.{kids_go}
use Rattle.avi_model.proofs.JoinedLaid.{hdrls_listed, strls_listed}
use Rattle.avi_model.proofs.NamesSet.{kids_small}
use Rattle.avi_model.proofs.Read.{renewed_avi}
use Rattle.avi_model.proofs.Respelled.{list_type, strl_run}
use Rattle.avi_model.proofs.Streams.{AreKids, IsKid, hdrl_run, kid_strl, laid_small}

-- ---- lists, wherever they stand

pub kids_both : (xs ys : List Stood) → count_kids (xs ++ ys) ≡ count_kids xs + count_kids ys
kids_both [] ys = omega arith
kids_both (x ∷ xs) ys = omega (arith, kids_both xs ys)

pub kids_anywhere : (p q : ℕ) (cs : List Chunk) → count_kids (stood p cs) ≡ count_kids (stood q cs)
kids_anywhere p q [] = refl
kids_anywhere p q (c ∷ cs) = ap (λ (k : ℕ). length (list_run c).chunks + k) (kids_anywhere (p + length (spell c)) (q + length (spell c)) cs)

-- the first hdrl, and the streams' lists in it
abbrev pub hdrls_of : List Stood → List Stood
hdrls_of xs = first_of (only is_hdrl xs)

abbrev pub strls_of : List Stood → List Stood
strls_of xs = only is_strl (flat_map kids (first_of (only is_hdrl xs)))

abbrev pub head_kids : List Chunk → ℕ
head_kids [] = 0
head_kids (c ∷ cs) = cond (is_hdrl c) (length (list_run c).chunks) (head_kids cs)

pub heads_are : (at : ℕ) (cs : List Chunk) → count_kids (hdrls_of (stood at cs)) ≡ head_kids cs
heads_are at [] = refl
heads_are at (c ∷ cs) = go (is_hdrl c) (heads_are (at + length (spell c)) cs)
  where
    go : (t : Bool) → count_kids (hdrls_of (stood (at + length (spell c)) cs)) ≡ head_kids cs
        → count_kids (first_of (cond t (record { at = at; chunk = bare c } ∷ only is_hdrl (stood (at + length (spell c)) cs)) (only is_hdrl (stood (at + length (spell c)) cs)))) ≡ cond t (length (list_run c).chunks) (head_kids cs)
    go true again = omega arith
    go false again = again

module _ (e : Names) where
  -- ---- the streams' lists are read as they are laid

  kid_told : (last : Bool) (n to : ℕ) (c : Chunk) (rest : List Stood) → IsKid c → length (spell (kid_named e last n c)) < 2 ^ 32
      → count_kids (cond (is_strl (kid_named e last n c)) (record { at = to; chunk = bare (kid_named e last n c) } ∷ rest) rest)
      ≡ cond (is_strl c) (length (cond (is_named e n) (strl_laid last (new_names e n) c) (list_run c).chunks)) 0 + count_kids rest
  kid_told last n to c rest h lt =
      ap (λ (t : Bool). count_kids (cond t (record { at = to; chunk = bare (kid_named e last n c) } ∷ rest) rest)) (kid_strl e last n c h)
      ∙ go (is_strl c) refl (is_named e n) lt
    where
      go : (t : Bool) → is_strl c ≡ t → (u : Bool) → length (spell (cond (t && u) (strl_named last (new_names e n) c) c)) < 2 ^ 32
          → count_kids (cond t (record { at = to; chunk = bare (cond (t && u) (strl_named last (new_names e n) c) c) } ∷ rest) rest)
          ≡ cond t (length (cond u (strl_laid last (new_names e n) c) (list_run c).chunks)) 0 + count_kids rest
      go true i true lt = ap (λ (r : Run). length r.chunks + count_kids rest) (strl_run last (names_after e n []) c (h.opens i) (laid_small e last n c (h.opens i) lt))
      go true i false lt = refl
      go false i u lt = omega arith

  pub kids_told : (ends : Bool) (n to : ℕ) (cs : List Chunk) → AreKids cs → length (spell_all (kids_named e ends n cs)) < 2 ^ 32
      → count_kids (only is_strl (stood to (kids_named e ends n cs))) ≡ kids_parts e ends n cs
  kids_told ends n to [] h lt = refl
  kids_told ends n to (c ∷ cs) h lt =
      let now = kid_named e (ends && is_nil cs) n c in
      let more = kids_named e ends (counted is_strl n c) cs in
      let next = to + length (spell now) in
      let long = length-append (spell now) (spell_all more) in
      omega (
        arith,
        kid_told (ends && is_nil cs) n to c (only is_strl (stood next more)) h.0 (omega (arith, lt, long)),
        kids_told ends (counted is_strl n c) next cs h.1 (omega (arith, lt, long)),
      )

  -- and hdrl has as many chunks as before
  kids_as_many : (ends : Bool) (n : ℕ) (cs : List Chunk) → length (kids_named e ends n cs) ≡ length cs
  kids_as_many ends n [] = refl
  kids_as_many ends n (c ∷ cs) = omega (arith, kids_as_many ends (counted is_strl n c) cs)

  pub named_told : (last : Bool) (to : ℕ) (cs : List Chunk) → AreChildren cs → HdrlSmall e last cs
      → (count_kids (hdrls_of (stood to (children_named e last cs))) ≡ head_kids cs) × (count_kids (strls_of (stood to (children_named e last cs))) ≡ hdrl_parts e last cs)
  named_told last to [] h lt = (refl, refl)
  named_told last to (c ∷ cs) h lt = go (is_hdrl c) refl (λ i. named_told last (to + length (spell c)) cs (behind_one c cs h i) (lt.1 i))
    where
      go : (t : Bool) → is_hdrl c ≡ t
          → (is_hdrl c ≡ false → (count_kids (hdrls_of (stood (to + length (spell c)) (children_named e last cs))) ≡ head_kids cs) × (count_kids (strls_of (stood (to + length (spell c)) (children_named e last cs))) ≡ hdrl_parts e last cs))
          → (count_kids (hdrls_of (stood to (cond t (hdrl_named e (last && is_nil cs) c ∷ cs) (c ∷ children_named e last cs)))) ≡ cond t (length (list_run c).chunks) (head_kids cs))
          × (count_kids (strls_of (stood to (cond t (hdrl_named e (last && is_nil cs) c ∷ cs) (c ∷ children_named e last cs)))) ≡ cond t (kids_parts e ((last && is_nil cs) && ends_list c) 0 (list_run c).chunks) (hdrl_parts e last cs))
      go true i again =
          let o = h.1.0 i in
          let t = last && is_nil cs in
          let ks = (list_run c).chunks in
          let new = hdrl_named e t c in
          let y : Stood = record { at = to; chunk = bare new } in
          let small = kids_small e t c o.0 (lt.0 i) in
          let typed : is_hdrl new ≡ true = list_type (codes "hdrl") c (kids_of e t c) o.0 ∙ i in
          let run = hdrl_run e t c o.0 o.1 small in
          let behind = only is_hdrl (stood (to + length (spell new)) cs) in
          let is : hdrls_of (stood to (new ∷ cs)) ≡ y ∷ [] = ap (λ (b : Bool). first_of (cond b (y ∷ behind) behind)) typed in (
            ap count_kids is ∙ omega (arith, ap (λ (r : Run). length r.chunks) run, kids_as_many (t && ends_list c) 0 ks),
            ap (λ (xs : List Stood). count_kids (only is_strl (flat_map kids xs))) is ∙ ap (λ (xs : List Stood). count_kids (only is_strl xs)) (append-nil (kids y))
                ∙ ap (λ (r : Run). count_kids (only is_strl (stood (to + 12) r.chunks))) run ∙ kids_told (t && ends_list c) 0 (to + 12) ks o.1 small,
          )
      go false i again =
          let more = children_named e last cs in
          let behind = only is_hdrl (stood (to + length (spell c)) more) in
          let skip : hdrls_of (stood to (c ∷ more)) ≡ first_of behind = ap (λ (b : Bool). first_of (cond b (record { at = to; chunk = bare c } ∷ behind) behind)) i in
          let z = again i in
          (ap count_kids skip ∙ z.0, ap (λ (xs : List Stood). count_kids (only is_strl (flat_map kids xs))) skip ∙ z.1)

-- ---- of a file

module _ (o : List ℕ) (bytes : IsBytes o) (s : Supported o) (e : Changes) where
  abbrev b : Avi
  b = renewed_avi (writes (move (goes (avi_of o) e)) o) (avi_of o)

  pub parts_told : HdrlSmall e.names (ends_file (renewed_avi (writes (move (goes (avi_of o) e)) o) (avi_of o))) (renewed_avi (writes (move (goes (avi_of o) e)) o) (avi_of o)).children
      → parts (joined (renewed_avi (writes (move (goes (avi_of o) e)) o) (avi_of o)) e) ≡ parts_after (renewed_avi (writes (move (goes (avi_of o) e)) o) (avi_of o)) e
  parts_told small =
      let X = joined b e in
      let nb = named b e.names in
      let cs = list_cuts (avi_of o) e in
      let told = named_told e.names (ends_file b) 12 b.children (chunks_again o bytes s (move (goes (avi_of o) e)) e) small in
      let heads : count_kids (hdrls X) ≡ count_kids (hdrls b) = ap count_kids (hdrls_listed o bytes s e small).0 ∙ kids_go (shift cs) (hdrls nb) ∙ told.0 ∙ sym (heads_are 12 b.children) in
      let streams : count_kids (strls X) ≡ stream_parts b e.names = ap count_kids (strls_listed o bytes s e small).0 ∙ kids_go (shift cs) (strls nb) ∙ told.1 in
      omega (
        arith,
        kids_both (hdrls X) (strls X ++ infos X),
        kids_both (strls X) (infos X),
        heads,
        streams,
        kids_anywhere (length (spell (form_of X))) (length (spell (form_of b))) b.others,
      )
