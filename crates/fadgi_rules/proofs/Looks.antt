-- The names that a rule looks at.
use Rattle.std.proofs.Common.{◌≡◌, ℕ, List, [], ◌∷◌, true, false, refl, sym, subst, inl, inr, codes}
use Rattle.std.specs.Prelude.{◌||◌, map, ◌⊎◌}
use Rattle.std.specs.List.{list_any}
use Rattle.std.proofs.lemmas.Bool.{or_cases}
use Rattle.part_tree.specs.declared.field.BextField.TheVariants.{Description, Originator, OriginatorReference, OriginationDate, OriginationTime, CodingHistory}
use Rattle.part_tree.specs.declared.field.FieldName.{FieldName}
use Rattle.part_tree.specs.declared.field.FieldName.TheVariants.{Bext, Info, Whole, User, Key, Stream}
use Rattle.part_tree.specs.declared.names.FourCc.{FourCc}
use Rattle.part_tree.specs.declared.names.Kind.{Kind}
use Rattle.part_tree.specs.declared.names.Kind.TheVariants.{Wave, Rf64, Bw64, Avi, Mov}
use Rattle.part_tree.specs.Letters.{four}
use Rattle.part_tree.specs.Names.{same_name}
use Rattle.part_tree.proofs.Places.{same_is_equal}
use Rattle.fadgi_rules.specs.declared.row.FieldRule.{FieldRule}
use Rattle.fadgi_rules.specs.declared.row.FieldRule.TheVariants as row
use Rattle.fadgi_rules.specs.Rows.{fields_of}
use Rattle.fadgi_rules.proofs.Views.{Texted}

pub one : (name x : FieldName) → (same_name name x || false) ≡ true → name ≡ x
one name x h = go (or_cases (same_name name x) false h)
  where
    go : (same_name name x ≡ true) ⊎ (false ≡ true) → name ≡ x
    go (inl same) = same_is_equal name x same
    go (inr wrong) = absurd cc

abbrev pub IsInfo : FieldName → Type 0
IsInfo name = (id : FourCc) × (name ≡ Info id)

pub info_one : (name : FieldName) (ids : List (List ℕ)) → list_any (same_name name) (map (λ id. Info (four id)) ids) ≡ true → IsInfo name
info_one (Bext field) ids h = absurd (go ids h)
  where
    go : (ids : List (List ℕ)) → list_any (same_name (Bext field)) (map (λ id. Info (four id)) ids) ≡ true → ⊥
    go [] h = absurd cc
    go (id ∷ ids) h = go ids h
info_one (Info id) ids h = (id, refl)
info_one (Whole w) ids h = absurd (go ids h)
  where
    go : (ids : List (List ℕ)) → list_any (same_name (Whole w)) (map (λ id. Info (four id)) ids) ≡ true → ⊥
    go [] h = absurd cc
    go (id ∷ ids) h = go ids h
info_one (User w) ids h = absurd (go ids h)
  where
    go : (ids : List (List ℕ)) → list_any (same_name (User w)) (map (λ id. Info (four id)) ids) ≡ true → ⊥
    go [] h = absurd cc
    go (id ∷ ids) h = go ids h
info_one (Key w) ids h = absurd (go ids h)
  where
    go : (ids : List (List ℕ)) → list_any (same_name (Key w)) (map (λ id. Info (four id)) ids) ≡ true → ⊥
    go [] h = absurd cc
    go (id ∷ ids) h = go ids h
info_one (Stream w) ids h = absurd (go ids h)
  where
    go : (ids : List (List ℕ)) → list_any (same_name (Stream w)) (map (λ id. Info (four id)) ids) ≡ true → ⊥
    go [] h = absurd cc
    go (id ∷ ids) h = go ids h

is_texted : (x name : FieldName) → Texted x → name ≡ x → Texted name
is_texted x name h is = subst Texted (sym is) h

-- the rules on texts that show themselves look at names of such texts
abbrev pub OnTexts : FieldRule → Type 0
OnTexts row.History = Unit {0}
OnTexts row.Date = Unit {0}
OnTexts row.Time = Unit {0}
OnTexts row.Range = ⊥
OnTexts row.Letters = Unit {0}
OnTexts row.Once = ⊥
OnTexts row.End = ⊥
OnTexts row.Created = Unit {0}
OnTexts row.HasDescription = Unit {0}
OnTexts row.HasOriginator = Unit {0}
OnTexts row.HasDate = Unit {0}

pub looks_texted : (r : FieldRule) (name : FieldName) (kind : Kind) → OnTexts r → list_any (same_name name) (fields_of r kind) ≡ true → Texted name
looks_texted row.History name kind on h = is_texted (Bext CodingHistory) name tt (one name (Bext CodingHistory) h)
looks_texted row.Date name kind on h = is_texted (Bext OriginationDate) name tt (one name (Bext OriginationDate) h)
looks_texted row.Time name kind on h = is_texted (Bext OriginationTime) name tt (one name (Bext OriginationTime) h)
looks_texted row.Range name kind on h = absurd on
looks_texted row.Letters name kind on h = go (or_cases (same_name name (Bext Description)) _ h)
  where
    last : (same_name name (Bext Originator) ≡ true) ⊎ ((same_name name (Bext OriginatorReference) || false) ≡ true) → Texted name
    last (inl is) = is_texted (Bext Originator) name tt (same_is_equal name (Bext Originator) is)
    last (inr is) = is_texted (Bext OriginatorReference) name tt (one name (Bext OriginatorReference) is)

    go : (same_name name (Bext Description) ≡ true) ⊎ ((same_name name (Bext Originator) || (same_name name (Bext OriginatorReference) || false)) ≡ true) → Texted name
    go (inl is) = is_texted (Bext Description) name tt (same_is_equal name (Bext Description) is)
    go (inr is) = last (or_cases (same_name name (Bext Originator)) _ is)
looks_texted row.Once name kind on h = absurd on
looks_texted row.End name kind on h = absurd on
looks_texted row.Created name kind on h = is_texted (Info (four (codes "ICRD"))) name tt (one name (Info (four (codes "ICRD"))) h)
looks_texted row.HasDescription name Wave on h = is_texted (Bext Description) name tt (one name (Bext Description) h)
looks_texted row.HasDescription name Rf64 on h = is_texted (Bext Description) name tt (one name (Bext Description) h)
looks_texted row.HasDescription name Bw64 on h = is_texted (Bext Description) name tt (one name (Bext Description) h)
looks_texted row.HasDescription name Avi on h = is_texted (Info (four (codes "INAM"))) name tt (one name (Info (four (codes "INAM"))) h)
looks_texted row.HasDescription name Mov on h = is_texted (User (four (169 ∷ codes "nam"))) name tt (one name (User (four (169 ∷ codes "nam"))) h)
looks_texted row.HasOriginator name Wave on h = is_texted (Bext Originator) name tt (one name (Bext Originator) h)
looks_texted row.HasOriginator name Rf64 on h = is_texted (Bext Originator) name tt (one name (Bext Originator) h)
looks_texted row.HasOriginator name Bw64 on h = is_texted (Bext Originator) name tt (one name (Bext Originator) h)
looks_texted row.HasOriginator name Avi on h = is_texted (Info (four (codes "IARL"))) name tt (one name (Info (four (codes "IARL"))) h)
looks_texted row.HasOriginator name Mov on h = absurd cc
looks_texted row.HasDate name Wave on h = is_texted (Bext OriginationDate) name tt (one name (Bext OriginationDate) h)
looks_texted row.HasDate name Rf64 on h = is_texted (Bext OriginationDate) name tt (one name (Bext OriginationDate) h)
looks_texted row.HasDate name Bw64 on h = is_texted (Bext OriginationDate) name tt (one name (Bext OriginationDate) h)
looks_texted row.HasDate name Avi on h = is_texted (Info (four (codes "ICRD"))) name tt (one name (Info (four (codes "ICRD"))) h)
looks_texted row.HasDate name Mov on h = is_texted (User (four (169 ∷ codes "day"))) name tt (one name (User (four (169 ∷ codes "day"))) h)
