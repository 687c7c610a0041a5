-- The first form with other names, with numbers written into its tables and without: an edit of the lists of fields doesn't tell them
-- apart, so it replaces the same spans of both.
use Rattle.std.proofs.Common.{◌≡◌, ℕ, ◌+◌, Bool, true, false, cond, List, [], ◌∷◌, length, map, replicate, refl, sym, ap, subst, ◌∙◌, arith, inl, inr}
use Rattle.std.specs.Prelude.{◌⊎◌, ◌&&◌, codes}
use Rattle.std.proofs.lemmas.List.{length-append}
use Rattle.container_model.specs.Chunk.{Chunk, Form, pad_len, spell, spell_all}
use Rattle.container_model.specs.Items.{is_nil}
use Rattle.container_model.specs.Units.{gap, kept, padded, lacks_pad}
use Rattle.container_model.specs.Written.{Write}
use Rattle.container_model.proofs.Written.{renew, renewed, renewed_length}
use Rattle.carrier_model.specs.Cells.{meets}
use Rattle.carrier_model.specs.Info.{info, is_padding, is_type}
use Rattle.carrier_model.proofs.Info.{padding_no_list}
use Rattle.avi_model.specs.Named.{Names, cell_by, cell_of, children_named, hdrl_named, is_hdrl}
use Rattle.avi_model.specs.NewFile.{home as behind_hdrl}
use Rattle.avi_model.proofs.Alike.{Alike, Same}
use Rattle.avi_model.proofs.Children.{FirstOpens, kids_of}
use Rattle.avi_model.proofs.Cuts.{AllAlone, ChunkAlone}
use Rattle.avi_model.proofs.Levels.{type_one}
use Rattle.avi_model.proofs.NamesStay.{ChildrenStay, HdrlStays, hdrl_long, hdrl_pad, hdrl_spell, nil_stays, renew_long, renew_spell, spell_alike}
use Rattle.avi_model.proofs.Respelled.{IsList, list_type, respelled_form, respelled_id}
use Rattle.avi_model.proofs.Types.{type_is}

-- with its whole pad a chunk is as long as one of the same header and length
padded_alike : (c d : Chunk) → d.form ≡ c.form → d.id ≡ c.id → length d.body ≡ length c.body → length (spell_all (padded d ∷ [])) ≡ length (spell_all (padded c ∷ []))
padded_alike c d form id body =
    let pad : (padded d).pad ≡ (padded c).pad = ap (λ (f : Form). replicate (pad_len f (length d.body)) 0) form ∙ ap (λ (k : ℕ). replicate (pad_len c.form k) 0) body in
    omega (arith, spell_alike (padded c) (padded d) form id pad body, length-append (spell (padded d)) [], length-append (spell (padded c)) [])

lacks_alike : (c d : Chunk) → d.form ≡ c.form → d.pad ≡ c.pad → length d.body ≡ length c.body → lacks_pad d ≡ lacks_pad c
lacks_alike c d form pad body =
    ap (λ (p : List ℕ). Rattle.std.specs.Prelude.nat_lt (length p) (pad_len d.form (length d.body))) pad ∙ ap (λ (f : Form). Rattle.std.specs.Prelude.nat_lt (length c.pad) (pad_len f (length d.body))) form
    ∙ ap (λ (k : ℕ). Rattle.std.specs.Prelude.nat_lt (length c.pad) (pad_len c.form k)) body

-- hdrl is no list of fields and no padding, and a new list stands behind it
pub not_info : (c : Chunk) → is_hdrl c ≡ true → is_type (codes "INFO") c ≡ false
not_info c i = go (is_type (codes "INFO") c) refl
  where
    go : (t : Bool) → is_type (codes "INFO") c ≡ t → t ≡ false
    go true j = absurd (type_one (codes "hdrl") (codes "INFO") (record { at = 0; chunk = c }) refl i j)
    go false j = refl

pub not_padding : (c : Chunk) → is_hdrl c ≡ true → is_padding c ≡ false
not_padding c i = go (is_padding c) refl
  where
    go : (t : Bool) → is_padding c ≡ t → t ≡ false
    go true j = let no : is_hdrl c ≡ false = padding_no_list (codes "hdrl") c j in absurd cc
    go false j = refl

at_home : (c : Chunk) → is_hdrl c ≡ true → meets behind_hdrl c ≡ true
at_home c i = let t = type_is (codes "hdrl") c i in rw (t.id_is, t.type_is) refl

module _ (ws : List Write) (e : Names) where
  -- ---- hdrl

  named_is : (ends : Bool) (c : Chunk) → IsList c → is_hdrl c ≡ true → is_hdrl (hdrl_named e ends c) ≡ true
  named_is ends c is i = list_type (codes "hdrl") c (kids_of e ends c) is ∙ i

  named_form : (ends : Bool) (c : Chunk) → (hdrl_named e ends c).form ≡ c.form
  named_form ends c = respelled_form c _

  named_id : (ends : Bool) (c : Chunk) → (hdrl_named e ends c).id ≡ c.id
  named_id ends c = respelled_id c _

  hdrl_same : (ends : Bool) (at : ℕ) (c : Chunk) → HdrlStays ws e at c → IsList c → IsList (renew ws at c) → is_hdrl c ≡ true → is_hdrl (renew ws at c) ≡ true
      → Same (hdrl_named e ends (renew ws at c)) (hdrl_named e ends c)
  hdrl_same ends at c h is again i j =
      let n = hdrl_named e ends c in
      let m = hdrl_named e ends (renew ws at c) in
      let form : m.form ≡ n.form = named_form ends (renew ws at c) ∙ sym (named_form ends c) in
      let id : m.id ≡ n.id = named_id ends (renew ws at c) ∙ sym (named_id ends c) in
      let one = named_is ends c is i in
      let two = named_is ends (renew ws at c) again j in
      record {
        long = hdrl_spell ws e ends at c h;
        padded_long = padded_alike n m form id (hdrl_long ws e ends at c h);
        lacks = lacks_alike n m form (hdrl_pad ws e ends at c h) (hdrl_long ws e ends at c h);
        list = inr (not_info m two, not_info n one);
        place = at_home m two ∙ sym (at_home n one);
      }

  -- ---- another chunk

  kept_same : (at : ℕ) (c : Chunk) → ChunkAlone ws at c → Same (renew ws at c) c
  kept_same at c h = record {
    long = renew_spell ws at c;
    padded_long = padded_alike c (renew ws at c) refl refl (renew_long ws at c);
    lacks = lacks_alike c (renew ws at c) refl refl (renew_long ws at c);
    list = turn h.1.0;
    place = h.1.1;
  }
    where
      turn : (renew ws at c ≡ c) ⊎ ((info.is c ≡ false) × (info.is (renew ws at c) ≡ false)) → (renew ws at c ≡ c) ⊎ ((info.is (renew ws at c) ≡ false) × (info.is c ≡ false))
      turn (inl q) = inl q
      turn (inr q) = inr (q.1, q.0)

  one_alike : (at : ℕ) (c : Chunk) (xs ys : List Rattle.container_model.specs.Units.Cell) → ChunkAlone ws at c → Alike xs ys → Alike (cell_of (renew ws at c) ∷ xs) (cell_of c ∷ ys)
  one_alike at c xs ys h g = go (is_padding c) refl
    where
      go : (t : Bool) → is_padding c ≡ t → Alike (cell_by (renew ws at c) t ∷ xs) (cell_by c t ∷ ys)
      go true p = (h.0 p, g)
      go false p = (kept_same at c h, g)

  plain_alike : (at : ℕ) (cs : List Chunk) → AllAlone ws at cs → Alike (map cell_of (renewed ws at cs)) (map cell_of cs)
  plain_alike at [] h = tt
  plain_alike at (c ∷ cs) h = one_alike at c (map cell_of (renewed ws (at + length (spell c)) cs)) (map cell_of cs) h.0 (plain_alike (at + length (spell c)) cs h.1)

  hdrl_alike : (n m : Chunk) (xs ys : List Rattle.container_model.specs.Units.Cell) → is_hdrl n ≡ true → is_hdrl m ≡ true → Same m n → Alike xs ys → Alike (cell_of m ∷ xs) (cell_of n ∷ ys)
  hdrl_alike n m xs ys i j same g =
      subst (λ (t : Bool). Alike (cell_by m t ∷ xs) (cell_of n ∷ ys)) (sym (not_padding m j)) (subst (λ (t : Bool). Alike (kept m ∷ xs) (cell_by n t ∷ ys)) (sym (not_padding n i)) (same, g))

  -- The first form with other names.
  pub children_alike : (ends : Bool) (at : ℕ) (cs : List Chunk) → AllAlone ws at cs → ChildrenStay ws e at cs → FirstOpens cs → FirstOpens (renewed ws at cs)
      → Alike (map cell_of (children_named e ends (renewed ws at cs))) (map cell_of (children_named e ends cs))
  children_alike ends at [] h k f r = tt
  children_alike ends at (c ∷ cs) h k f r =
      let next = at + length (spell c) in
      let d = renew ws at c in
      subst (λ (b : Bool). Alike (map cell_of (cond b (hdrl_named e (ends && is_nil (renewed ws next cs)) d ∷ renewed ws next cs) (d ∷ children_named e ends (renewed ws next cs)))) (map cell_of (children_named e ends (c ∷ cs)))) (sym k.0)
      (subst (λ (b : Bool). Alike (map cell_of (cond (is_hdrl c) (hdrl_named e (ends && b) d ∷ renewed ws next cs) (d ∷ children_named e ends (renewed ws next cs)))) (map cell_of (children_named e ends (c ∷ cs)))) (sym (nil_stays ws e next cs)) (go (is_hdrl c) refl (λ i. children_alike ends next cs h.1 (k.1.1 i) (f.1 i) (r.1 (k.0 ∙ i)))))
    where
      go : (t : Bool) → is_hdrl c ≡ t → (is_hdrl c ≡ false → Alike (map cell_of (children_named e ends (renewed ws (at + length (spell c)) cs))) (map cell_of (children_named e ends cs)))
          → Alike (map cell_of (cond t (hdrl_named e (ends && is_nil cs) (renew ws at c) ∷ renewed ws (at + length (spell c)) cs) (renew ws at c ∷ children_named e ends (renewed ws (at + length (spell c)) cs))))
          (map cell_of (cond t (hdrl_named e (ends && is_nil cs) c ∷ cs) (c ∷ children_named e ends cs)))
      go true i again =
          let o = (f.0 i).0 in
          let j : is_hdrl (renew ws at c) ≡ true = k.0 ∙ i in
          let q = (r.0 j).0 in
          let t = ends && is_nil cs in
          hdrl_alike (hdrl_named e t c) (hdrl_named e t (renew ws at c)) (map cell_of (renewed ws (at + length (spell c)) cs)) (map cell_of cs) (named_is t c o i) (named_is t (renew ws at c) q j) (hdrl_same t at c (k.1.0 i) o q i j) (plain_alike (at + length (spell c)) cs h.1)
      go false i again = one_alike at c (map cell_of (children_named e ends (renewed ws (at + length (spell c)) cs))) (map cell_of (children_named e ends cs)) h.0 (again i)

  -- how long it is
  pub children_long : (ends : Bool) (at : ℕ) (cs : List Chunk) → ChildrenStay ws e at cs → length (spell_all (children_named e ends (renewed ws at cs))) ≡ length (spell_all (children_named e ends cs))
  children_long ends at [] k = refl
  children_long ends at (c ∷ cs) k =
      let next = at + length (spell c) in
      let d = renew ws at c in
      ap (λ (b : Bool). length (spell_all (cond b (hdrl_named e (ends && is_nil (renewed ws next cs)) d ∷ renewed ws next cs) (d ∷ children_named e ends (renewed ws next cs))))) k.0
      ∙ ap (λ (b : Bool). length (spell_all (cond (is_hdrl c) (hdrl_named e (ends && b) d ∷ renewed ws next cs) (d ∷ children_named e ends (renewed ws next cs))))) (nil_stays ws e next cs) ∙ go (is_hdrl c) refl (λ i. children_long ends next cs (k.1.1 i))
    where
      go : (t : Bool) → is_hdrl c ≡ t → (is_hdrl c ≡ false → length (spell_all (children_named e ends (renewed ws (at + length (spell c)) cs))) ≡ length (spell_all (children_named e ends cs)))
          → length (spell_all (cond t (hdrl_named e (ends && is_nil cs) (renew ws at c) ∷ renewed ws (at + length (spell c)) cs) (renew ws at c ∷ children_named e ends (renewed ws (at + length (spell c)) cs))))
          ≡ length (spell_all (cond t (hdrl_named e (ends && is_nil cs) c ∷ cs) (c ∷ children_named e ends cs)))
      go true i again =
          let t = ends && is_nil cs in
          omega (
            arith,
            hdrl_spell ws e t at c (k.1.0 i),
            renewed_length ws (at + length (spell c)) cs,
            length-append (spell (hdrl_named e t (renew ws at c))) (spell_all (renewed ws (at + length (spell c)) cs)),
            length-append (spell (hdrl_named e t c)) (spell_all cs),
          )
      go false i again =
          omega (
            arith,
            renew_spell ws at c,
            again i,
            length-append (spell (renew ws at c)) (spell_all (children_named e ends (renewed ws (at + length (spell c)) cs))),
            length-append (spell c) (spell_all (children_named e ends cs)),
          )
