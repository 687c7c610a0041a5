-- The kinds of chunks of the first form.
use Rattle.std.proofs.Common.{◌≡◌, ◌∙◌, ℕ, ◌<◌, Bool, true, false, List, length, take, refl, sym, ap}
use Rattle.std.specs.Prelude.{codes, ◌&&◌, not, if◌then◌else◌}
use Rattle.std.specs.Str.{bytes_eq}
use Rattle.opendml_index.proofs.Known.{same_true}
use Rattle.part_tree.specs.declared.part.Role.{Role}
use Rattle.part_tree.specs.declared.part.Role.TheVariants as role
use Rattle.container_model.specs.Chunk.{Chunk, riff}
use Rattle.carrier_model.specs.Info.{is_padding, is_type}
use Rattle.avi_model.specs.Avi.{is_movi}
use Rattle.avi_model.specs.Map.{role_where, top_role}
use Rattle.avi_file.specs.declared.kind.TopKind.{TopKind}
use Rattle.avi_file.specs.declared.kind.TopKind.TheVariants.{Padding, Info, Hdrl, Movi, Idx1, Other}
use Rattle.avi_file.specs.Walk.{is_essence, is_items, IsKind, is_hdrl_kind, is_idx1_kind, is_info_kind, is_movi_kind, is_padding_kind, list_kind, role_of_kind}
use Rattle.avi_file.proofs.Left.{no_type}

both_are : (a b t : Bool) → a ≡ true → b ≡ t → (a && b) ≡ t
both_are true b t e h = h
both_are false b t e h = absurd cc

other_word : (x a b : List ℕ) → bytes_eq x a ≡ true → bytes_eq a b ≡ false → bytes_eq x b ≡ false
other_word x a b e h = ap (λ (y : List ℕ). bytes_eq y b) (same_true x a e) ∙ h

abbrev riff_chunk : List ℕ → List ℕ → List ℕ → Chunk
riff_chunk id body pad = record { form = riff; id = id; body = body; pad = pad }

list_kinds : (i h m : Bool) (id body pad : List ℕ) → bytes_eq id (codes "JUNK") ≡ false → bytes_eq id (codes "LIST") ≡ true → bytes_eq id (codes "idx1") ≡ false → bytes_eq (take 4 body) (codes "INFO") ≡ i → bytes_eq (take 4 body) (codes "hdrl") ≡ h
    → bytes_eq (take 4 body) (codes "movi") ≡ m → IsKind (riff_chunk id body pad) (if i then Info else (if h then Hdrl else (if m then Movi else Other)))
list_kinds true h m id body pad junk list idx1 is_i is_h is_m = record {
  padding = junk;
  info = both_are (bytes_eq id (codes "LIST")) (bytes_eq (take 4 body) (codes "INFO")) true list is_i;
  hdrl = both_are (bytes_eq id (codes "LIST")) (bytes_eq (take 4 body) (codes "hdrl")) false list (other_word (take 4 body) (codes "INFO") (codes "hdrl") is_i refl);
  movi = both_are (bytes_eq id (codes "LIST")) (bytes_eq (take 4 body) (codes "movi")) false list (other_word (take 4 body) (codes "INFO") (codes "movi") is_i refl);
  idx1 = idx1;
}
list_kinds false true m id body pad junk list idx1 is_i is_h is_m = record {
  padding = junk;
  info = both_are (bytes_eq id (codes "LIST")) (bytes_eq (take 4 body) (codes "INFO")) false list is_i;
  hdrl = both_are (bytes_eq id (codes "LIST")) (bytes_eq (take 4 body) (codes "hdrl")) true list is_h;
  movi = both_are (bytes_eq id (codes "LIST")) (bytes_eq (take 4 body) (codes "movi")) false list (other_word (take 4 body) (codes "hdrl") (codes "movi") is_h refl);
  idx1 = idx1;
}
list_kinds false false true id body pad junk list idx1 is_i is_h is_m = record {
  padding = junk;
  info = both_are (bytes_eq id (codes "LIST")) (bytes_eq (take 4 body) (codes "INFO")) false list is_i;
  hdrl = both_are (bytes_eq id (codes "LIST")) (bytes_eq (take 4 body) (codes "hdrl")) false list is_h;
  movi = both_are (bytes_eq id (codes "LIST")) (bytes_eq (take 4 body) (codes "movi")) true list is_m;
  idx1 = idx1;
}
list_kinds false false false id body pad junk list idx1 is_i is_h is_m = record {
  padding = junk;
  info = both_are (bytes_eq id (codes "LIST")) (bytes_eq (take 4 body) (codes "INFO")) false list is_i;
  hdrl = both_are (bytes_eq id (codes "LIST")) (bytes_eq (take 4 body) (codes "hdrl")) false list is_h;
  movi = both_are (bytes_eq id (codes "LIST")) (bytes_eq (take 4 body) (codes "movi")) false list is_m;
  idx1 = idx1;
}

-- a list is of the kind of its type
pub kind_of_list : (id body pad word : List ℕ) → bytes_eq id (codes "JUNK") ≡ false → bytes_eq id (codes "LIST") ≡ true → bytes_eq id (codes "idx1") ≡ false → word ≡ take 4 body → IsKind (riff_chunk id body pad) (list_kind word)
kind_of_list id body pad word junk list idx1 same =
    let text = λ (x : List ℕ). ap (λ (y : List ℕ). bytes_eq y x) (sym same) in
    list_kinds (bytes_eq word (codes "INFO")) (bytes_eq word (codes "hdrl")) (bytes_eq word (codes "movi")) id body pad junk list idx1 (text (codes "INFO")) (text (codes "hdrl")) (text (codes "movi"))

-- one of fewer bytes is of none
pub kind_of_short : (id body pad : List ℕ) → bytes_eq id (codes "JUNK") ≡ false → bytes_eq id (codes "idx1") ≡ false → length (take 4 body) < 4 → IsKind (riff_chunk id body pad) Other
kind_of_short id body pad junk idx1 few = record {
  padding = junk;
  info = sym (no_type (bytes_eq id (codes "LIST")) (take 4 body) (codes "INFO") few);
  hdrl = sym (no_type (bytes_eq id (codes "LIST")) (take 4 body) (codes "hdrl") few);
  movi = sym (no_type (bytes_eq id (codes "LIST")) (take 4 body) (codes "movi") few);
  idx1 = idx1;
}

-- ---- roles

abbrev role_by_tests : Bool → Bool → Bool → Bool → Bool → Role
role_by_tests indexed p i m x = if p then role.Padding else (if i then role.Info else (if m then role.Essence else role_where (not indexed && x) role.Tables))

pub last_and : (a : Bool) → (a && false) ≡ false
last_and true = refl
last_and false = refl

first_and : (a : Bool) → (a && true) ≡ a
first_and true = refl
first_and false = refl

role_by_kind : (kind : TopKind) (indexed : Bool) → role_of_kind kind indexed ≡ role_by_tests indexed (is_padding_kind kind) (is_info_kind kind) (is_movi_kind kind) (is_idx1_kind kind)
role_by_kind Padding indexed = refl
role_by_kind Info indexed = refl
role_by_kind Movi indexed = refl
role_by_kind Hdrl indexed = ap (λ (t : Bool). role_where t role.Tables) (sym (last_and (not indexed)))
role_by_kind Idx1 indexed = ap (λ (t : Bool). role_where t role.Tables) (sym (first_and (not indexed)))
role_by_kind Other indexed = ap (λ (t : Bool). role_where t role.Tables) (sym (last_and (not indexed)))

pub role_is : (c : Chunk) (kind : TopKind) (indexed : Bool) → IsKind c kind → role_of_kind kind indexed ≡ top_role indexed c
role_is c kind indexed is =
    role_by_kind kind indexed
    ∙ ap (λ (t : Bool). role_by_tests indexed t (is_info_kind kind) (is_movi_kind kind) (is_idx1_kind kind)) (sym is.padding)
    ∙ ap (λ (t : Bool). role_by_tests indexed (is_padding c) t (is_movi_kind kind) (is_idx1_kind kind)) (sym is.info)
    ∙ ap (λ (t : Bool). role_by_tests indexed (is_padding c) (is_type (codes "INFO") c) t (is_idx1_kind kind)) (sym is.movi)
    ∙ ap (λ (t : Bool). role_by_tests indexed (is_padding c) (is_type (codes "INFO") c) (is_movi c) t) (sym is.idx1)

pub items_is : (kind : TopKind) (indexed : Bool) → is_items (role_of_kind kind indexed) ≡ is_info_kind kind
items_is Padding indexed = refl
items_is Info indexed = refl
items_is Movi indexed = refl
items_is Hdrl indexed = refl
items_is Idx1 true = refl
items_is Idx1 false = refl
items_is Other indexed = refl

pub essence_is : (kind : TopKind) (indexed : Bool) → is_essence (role_of_kind kind indexed) ≡ is_movi_kind kind
essence_is Padding indexed = refl
essence_is Info indexed = refl
essence_is Movi indexed = refl
essence_is Hdrl indexed = refl
essence_is Idx1 true = refl
essence_is Idx1 false = refl
essence_is Other indexed = refl

-- a kind that is none of two
pub other_kind : (kind : TopKind) → (kind ≡ Info → ⊥) → (kind ≡ Hdrl → ⊥) → (is_info_kind kind ≡ false) × (is_hdrl_kind kind ≡ false)
other_kind Padding i h = (refl, refl)
other_kind Info i h = absurd (i refl)
other_kind Hdrl i h = absurd (h refl)
other_kind Movi i h = (refl, refl)
other_kind Idx1 i h = (refl, refl)
other_kind Other i h = (refl, refl)
