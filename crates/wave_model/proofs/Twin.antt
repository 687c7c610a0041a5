-- A BW64 file and its twin are alike but for their identifier.
use Rattle.std.proofs.Common.{◌≡◌, ℕ, ◌-◌, ◌^◌, Bool, true, false, List, [], ◌∷◌, ◌++◌, length, map, take, drop, refl, sym, ap, subst, ◌∙◌, inl, inr}
use Rattle.std.specs.Prelude.{◌⊎◌, ◌||◌, ◌&&◌, not, nat_lt, codes}
use Rattle.std.specs.Str.{bytes_eq}
use Rattle.std.proofs.lemmas.List.{take-append-drop}
use Rattle.part_tree.specs.Large.{Size, limited, first_above}
use Rattle.part_tree.specs.declared.field.EditItem.{EditItem}
use Rattle.part_tree.specs.declared.field.FieldName.{FieldName}
use Rattle.field_model.specs.Update.{RawItem, effective, raw_items}
use Rattle.container_model.specs.Chunk.{Form, riff, wide, short, long, to_end, spell}
use Rattle.container_model.proofs.Codec.{IsBytes}
use Rattle.container_model.proofs.Items.{same_true}
use Rattle.wave_model.specs.Wave.{is_big, Wave, wave_of, inner, spell_wave}
use Rattle.wave_model.specs.Fields.{is_info, bodies, fields}
use Rattle.wave_model.specs.Why.{why}
use Rattle.wave_model.specs.New.{new_size, new_wave}
use Rattle.wave_model.specs.Room.{has_room, patches}
use Rattle.wave_model.specs.Edited.{parts, pieces, Supported}
use Rattle.wave_model.specs.Large.{form_sizes}
use Rattle.wave_model.specs.Widen.{widens_by, wave_by, file_after, sizes_in, large_after_by, large_after, room_after}
use Rattle.wave_model.specs.Twin.{twin_id, twin}
use Rattle.carrier_model.proofs.RiffForm.{IsForm, field_of}
use Rattle.wave_model.proofs.Again.{spelled}
use Rattle.wave_model.proofs.Form.{old_form}

either : (id : List ℕ) → is_big id ≡ true → (id ≡ codes "RF64") ⊎ (id ≡ codes "BW64")
either id e = go (bytes_eq id (codes "RF64")) (bytes_eq id (codes "BW64")) refl refl e
  where
    go : (t u : Bool) → bytes_eq id (codes "RF64") ≡ t → bytes_eq id (codes "BW64") ≡ u → (t || (u || false)) ≡ true → (id ≡ codes "RF64") ⊎ (id ≡ codes "BW64")
    go true u x y e = inl (same_true id (codes "RF64") x)
    go false true x y e = inr (same_true id (codes "BW64") y)
    go false false x y e = absurd cc

-- what both have
abbrev Alike : {X : Type 0} → (List ℕ → X) → Type 0
Alike f = (r : List ℕ) → f (codes "BW64" ++ r) ≡ f (codes "RF64" ++ r)

alike : {X : Type 0} (f : List ℕ → X) → Alike f → (b : List ℕ) → is_big (take 4 b) ≡ true → f (twin b) ≡ f b
alike f same b e = go (either (take 4 b) e)
  where
    whole : take 4 b ++ drop 4 b ≡ b
    whole = take-append-drop 4 b

    go : (take 4 b ≡ codes "RF64") ⊎ (take 4 b ≡ codes "BW64") → f (twin b) ≡ f b
    go (inl i) = ap (λ (id : List ℕ). f (twin_id id ++ drop 4 b)) i ∙ same (drop 4 b) ∙ sym (ap (λ (id : List ℕ). f (id ++ drop 4 b)) i) ∙ ap f whole
    go (inr i) = ap (λ (id : List ℕ). f (twin_id id ++ drop 4 b)) i ∙ sym (same (drop 4 b)) ∙ sym (ap (λ (id : List ℕ). f (id ++ drop 4 b)) i) ∙ ap f whole

same_why : Alike why
unfolding why
same_why r = refl

pub twin_why : (b : List ℕ) → is_big (take 4 b) ≡ true → why (twin b) ≡ why b
twin_why b e = alike why same_why b e

pub twin_fields : (b : List ℕ) (name : FieldName) → is_big (take 4 b) ≡ true → fields (twin b) name ≡ fields b name
twin_fields b name e = alike (λ (o : List ℕ). fields o name) (λ r. refl) b e

pub twin_pieces : (b : List ℕ) → is_big (take 4 b) ≡ true → pieces (twin b) ≡ pieces b
twin_pieces b e = alike pieces (λ r. refl) b e

-- a form that has ds64 doesn't widen
no_widening : (es : List EditItem) (w : Wave) (e : List RawItem) → is_big w.id ≡ true → widens_by es w e ≡ false
no_widening [] w e b = refl
no_widening (i ∷ is) w e b = ap (λ (t : Bool). not t && nat_lt (2 ^ 32 - 1) (new_size w e)) b

sizes_same : (v : Wave) → sizes_in (record v { id = codes "BW64" }) ≡ sizes_in (record v { id = codes "RF64" })
sizes_same v = go v.form
  where
    all : Form → List ℕ → List Size
    all form id =
        map (λ b. limited (2 ^ 24) (length b)) (bodies is_info v.children)
        ++ (limited 65536 (parts v) ∷ (form_sizes form id (length (inner v)) ++ limited (2 ^ 63 - 1) (length (spell (record { form = form; id = id; body = inner v; pad = v.pad }) ++ v.tail)) ∷ []))

    go : (form : Form) → all form (codes "BW64") ≡ all form (codes "RF64")
    go riff = refl
    go wide = refl
    go short = refl
    go long = refl
    go to_end = refl

large_same : (es : List EditItem) (w : Wave) (e : List RawItem)
    → large_after_by es (wave_by (widens_by es (record w { id = codes "BW64" }) e) (record w { id = codes "BW64" }) e) ≡ large_after_by es (wave_by (widens_by es (record w { id = codes "RF64" }) e) (record w { id = codes "RF64" }) e)
large_same [] w e = refl
large_same (i ∷ is) w e = ap first_above (sizes_same (new_wave w e))

pub twin_large : (b : List ℕ) (e : List EditItem) → is_big (take 4 b) ≡ true → large_after (twin b) e ≡ large_after b e
twin_large b e i = alike (λ (o : List ℕ). large_after o e) (λ r. large_same (effective (fields (codes "RF64" ++ r)) e) (wave_of (codes "RF64" ++ r)) (raw_items (fields (codes "RF64" ++ r)) e)) b i

room_same : (es : List EditItem) (w : Wave) (e : List RawItem) → (not (widens_by es (record w { id = codes "BW64" }) e) && has_room w e) ≡ (not (widens_by es (record w { id = codes "RF64" }) e) && has_room w e)
room_same [] w e = refl
room_same (i ∷ is) w e = refl

pub twin_room : (b : List ℕ) (e : List EditItem) → is_big (take 4 b) ≡ true → room_after (twin b) e ≡ room_after b e
twin_room b e i = alike (λ (o : List ℕ). room_after o e) (λ r. room_same (effective (fields (codes "RF64" ++ r)) e) (wave_of (codes "RF64" ++ r)) (raw_items (fields (codes "RF64" ++ r)) e)) b i

pub twin_patches : (b : List ℕ) (e : List EditItem) → is_big (take 4 b) ≡ true → patches (twin b) e ≡ patches b e
twin_patches b e i = alike (λ (o : List ℕ). patches o e) (λ r. refl) b i

-- ---- the new file

record NewTwins (e : List EditItem) (r : List ℕ) : Type 0 where
  rest : List ℕ
  rf64 : file_after (codes "RF64" ++ r) e ≡ codes "RF64" ++ rest
  bw64 : file_after (codes "BW64" ++ r) e ≡ codes "BW64" ++ rest

new_twins : (e : List EditItem) (r : List ℕ) → IsForm (wave_of (codes "RF64" ++ r)).form → NewTwins e r
unfolding file_after
new_twins e r f =
    let w = wave_of (codes "RF64" ++ r) in
    let es = effective (fields (codes "RF64" ++ r)) e in
    let raws = raw_items (fields (codes "RF64" ++ r)) e in
    let n = new_wave w raws in
    record {
      rest = field_of n.form (length (inner n)) ++ (inner n ++ (n.pad ++ n.tail));
      rf64 = ap (λ (t : Bool). spell_wave (wave_by t w raws)) (no_widening es w raws refl) ∙ spelled n f;
      bw64 = ap (λ (t : Bool). spell_wave (wave_by t (record w { id = codes "BW64" }) raws)) (no_widening es (record w { id = codes "BW64" }) raws refl) ∙ spelled (record n { id = codes "BW64" }) f;
    }

pub twin_new : (o : List ℕ) (e : List EditItem) → IsBytes o → Supported o → is_big (take 4 o) ≡ true → file_after (twin o) e ≡ twin (file_after o e)
twin_new o e bytes sup big = go (either (take 4 o) big)
  where
    whole : take 4 o ++ drop 4 o ≡ o
    whole = take-append-drop 4 o

    form : IsForm (wave_of o).form
    form = old_form o bytes sup

    P : List ℕ → Type 0
    P x = file_after (twin x) e ≡ twin (file_after x e)

    go : (take 4 o ≡ codes "RF64") ⊎ (take 4 o ≡ codes "BW64") → file_after (twin o) e ≡ twin (file_after o e)
    go (inl i) =
        let at : codes "RF64" ++ drop 4 o ≡ o = sym (ap (λ (id : List ℕ). id ++ drop 4 o) i) ∙ whole in
        let s = new_twins e (drop 4 o) (subst (λ (x : List ℕ). IsForm (wave_of x).form) (sym at) form) in
        subst P at (s.bw64 ∙ sym (ap twin s.rf64))
    go (inr i) =
        let at : codes "BW64" ++ drop 4 o ≡ o = sym (ap (λ (id : List ℕ). id ++ drop 4 o) i) ∙ whole in
        let s = new_twins e (drop 4 o) (subst (λ (x : List ℕ). IsForm (wave_of x).form) (sym at) form) in
        subst P at (s.rf64 ∙ sym (ap twin s.bw64))
