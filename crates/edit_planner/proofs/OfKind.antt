-- What holds of a kind holds of each file of that kind.
use Rattle.std.proofs.Common.{◌≡◌, ℕ, List, [], ◌∷◌, leb, length, take, drop, Bool, true, false, cond, ◌&&◌, ◌||◌, Option, Some, None, refl, sym, ap, ◌∙◌, subst, inl, inr, arith}
use Rattle.std.specs.Prelude.{codes, not, ◌⊎◌}
use Rattle.std.specs.Str.{bytes_eq}
use Rattle.std.proofs.lemmas.Bool.{and_parts, or_cases}
use Rattle.std.proofs.lemmas.List.{drop-take, take-take}
use Rattle.part_tree.specs.Kinds.{is_form_of, is_movie, kind}
use Rattle.part_tree.specs.declared.names.Kind.{Kind}
use Rattle.part_tree.specs.declared.names.Kind.TheVariants.{Wave, Rf64, Bw64, Avi, Mov}
use Rattle.part_tree.specs.declared.why.Why.{Why}
use Rattle.field_model.specs.Kind.{KindModel, IsKind}
use Rattle.container_model.specs.Tests.{first, or_else}
use Rattle.avi_model.specs.Kind.{avi_kind}
use Rattle.avi_model.specs.Why.{why_named}
use Rattle.avi_model.proofs.AviKind.{is_avi_kind}
use Rattle.mov_file.proofs.FirstMoov.{kind_read}
use Rattle.mov_model.specs.Begins as mov
use Rattle.container_model.proofs.Items.{same_true}
use Rattle.edit_planner.proofs.AviForms.{supported_by}
use Rattle.mov_model.specs.Kind.{mov_kind}
use Rattle.mov_model.specs.Why as mov_why
use Rattle.mov_model.proofs.Why.{none_supported}
use Rattle.mov_model.proofs.WideKind.{is_mov_kind}
use Rattle.wave_model.specs.Edited.{is_kind}
use Rattle.wave_model.specs.Kind.{wave_kind}
use Rattle.wave_model.specs.Why.{why, kind_tests}
use Rattle.wave_model.proofs.Kind.{wave_law}
use Rattle.edit_planner.specs.declared.plans.FileMap.{FileMap}
use Rattle.edit_planner.specs.declared.plans.FileMap.TheVariants as map
use Rattle.edit_planner.specs.Plan.{Maps}
use Rattle.edit_planner.specs.Kinds.{kind_at, is_avi, is_mov, is_sound, model_of, model_in}

pub of_kind : (P : KindModel → Type 0) (o : List ℕ) (w : Option Kind) → kind_at o ≡ w → P (model_of w) → P (model_in o)
unfolding model_in
of_kind P o w is p = subst (λ (v : Option Kind). P (model_of v)) (sym is) p

-- ---- the laws

laws : (w : Option Kind) → IsKind (model_of w)
laws (Some Avi) = is_avi_kind
laws (Some Mov) = is_mov_kind
laws (Some Wave) = wave_law
laws (Some Rf64) = wave_law
laws (Some Bw64) = wave_law
laws None = wave_law

pub law : (o : List ℕ) → IsKind (model_in o)
unfolding laws
law o = of_kind IsKind o (kind_at o) refl (laws (kind_at o))

-- ---- a WAVE file

-- what holds of WAVE files holds of each file that is read as these are
wave_model : (P : KindModel → Type 0) (w : Option Kind) → is_sound w ≡ true → P wave_kind → P (model_of w)
wave_model P None h p = p
wave_model P (Some Wave) h p = p
wave_model P (Some Rf64) h p = p
wave_model P (Some Bw64) h p = p
wave_model P (Some Avi) h p = absurd cc
wave_model P (Some Mov) h p = absurd cc

pub of_wave : (P : KindModel → Type 0) (o : List ℕ) → is_sound (kind_at o) ≡ true → P wave_kind → P (model_in o)
of_wave P o now p = of_kind P o (kind_at o) refl (wave_model P (kind_at o) now p)

-- what is read neither as an AVI file nor as a movie is read as WAVE files are
pub sound_by : (w : Option Kind) → is_avi w ≡ false → is_mov w ≡ false → is_sound w ≡ true
sound_by None h j = refl
sound_by (Some Wave) h j = refl
sound_by (Some Rf64) h j = refl
sound_by (Some Bw64) h j = refl
sound_by (Some Avi) h j = absurd cc
sound_by (Some Mov) h j = absurd cc

-- what holds of AVI files holds of each file of their kind
pub of_avi : (P : KindModel → Type 0) (o : List ℕ) → kind_at o ≡ Some Avi → P avi_kind → P (model_in o)
of_avi P o is p = of_kind P o (Some Avi) is p

pub avi_by : (w : Option Kind) → is_avi w ≡ true → w ≡ Some Avi
avi_by None h = absurd cc
avi_by (Some Wave) h = absurd cc
avi_by (Some Rf64) h = absurd cc
avi_by (Some Bw64) h = absurd cc
avi_by (Some Avi) h = refl
avi_by (Some Mov) h = absurd cc

-- what holds of movies holds of each file of their kind
pub of_mov : (P : KindModel → Type 0) (o : List ℕ) → kind_at o ≡ Some Mov → P mov_kind → P (model_in o)
of_mov P o is p = of_kind P o (Some Mov) is p

pub mov_by : (w : Option Kind) → is_mov w ≡ true → w ≡ Some Mov
mov_by None h = absurd cc
mov_by (Some Wave) h = absurd cc
mov_by (Some Rf64) h = absurd cc
mov_by (Some Bw64) h = absurd cc
mov_by (Some Avi) h = absurd cc
mov_by (Some Mov) h = refl

-- a supported WAVE file is of the kind of WAVE files
none_first : (t : Bool) (x : Why) (rest : Option Why) → or_else (first ((not t, x) ∷ [])) rest ≡ None → t ≡ true
none_first true x rest h = refl
none_first false x rest h = absurd cc

early : (t u v : Bool) (rest : Option Kind) → ((t || u) || v) ≡ true → is_sound (cond t (Some Wave) (cond u (Some Rf64) (cond v (Some Bw64) rest))) ≡ true
early true u v rest h = refl
early false true v rest h = refl
early false false true rest h = refl
early false false false rest h = absurd cc

pub is_read : (o : List ℕ) → why o ≡ None → is_sound (kind_at o) ≡ true
unfolding why
is_read o fine = early (is_form_of (codes "RIFF") (codes "WAVE") b) (is_form_of (codes "RF64") (codes "WAVE") b) (is_form_of (codes "BW64") (codes "WAVE") b) _ found
  where
    b : List ℕ
    b = take 12 o

    parts : (is_kind (take 4 o) ≡ true) × (bytes_eq (take 4 (drop 8 o)) (codes "WAVE") ≡ true)
    parts = and_parts (is_kind (take 4 o)) (bytes_eq (take 4 (drop 8 o)) (codes "WAVE")) (none_first (is_kind (take 4 o) && bytes_eq (take 4 (drop 8 o)) (codes "WAVE")) _ _ fine)

    form : (id : List ℕ) → bytes_eq (take 4 o) id ≡ true → is_form_of id (codes "WAVE") b ≡ true
    form id h =
        ap (λ (x : List ℕ). bytes_eq x id && bytes_eq (take 4 (drop 8 b)) (codes "WAVE")) (take-take 4 12 o (omega arith))
        ∙ ap (λ (x : List ℕ). bytes_eq (take 4 o) id && bytes_eq (take 4 x) (codes "WAVE")) (drop-take 8 4 o)
        ∙ ap (λ (x : List ℕ). bytes_eq (take 4 o) id && bytes_eq x (codes "WAVE")) (take-take 4 4 (drop 8 o) (omega arith))
        ∙ ap (λ (t : Bool). t && bytes_eq (take 4 (drop 8 o)) (codes "WAVE")) h ∙ parts.1

    any : (t u v a c d : Bool) → (t ≡ true → a ≡ true) → (u ≡ true → c ≡ true) → (v ≡ true → d ≡ true) → ((t || false) || (u || (v || false))) ≡ true → ((a || c) || d) ≡ true
    any true u v true c d f g h x = refl
    any true u v false c d f g h x = let no : false ≡ true = f refl in absurd cc
    any false true v true c d f g h x = refl
    any false true v false true d f g h x = refl
    any false true v false false d f g h x = let no : false ≡ true = g refl in absurd cc
    any false false true true c d f g h x = refl
    any false false true false true d f g h x = refl
    any false false true false false true f g h x = refl
    any false false true false false false f g h x = let no : false ≡ true = h refl in absurd cc
    any false false false a c d f g h x = absurd cc

    found : ((is_form_of (codes "RIFF") (codes "WAVE") b || is_form_of (codes "RF64") (codes "WAVE") b) || is_form_of (codes "BW64") (codes "WAVE") b) ≡ true
    found = any (bytes_eq (take 4 o) (codes "RIFF")) (bytes_eq (take 4 o) (codes "RF64")) (bytes_eq (take 4 o) (codes "BW64")) _ _ _ (form (codes "RIFF")) (form (codes "RF64")) (form (codes "BW64")) parts.0

some_mov : (w : Option Kind) → mov.is_mov w ≡ true → w ≡ Some Mov
some_mov None h = absurd cc
some_mov (Some Wave) h = absurd cc
some_mov (Some Rf64) h = absurd cc
some_mov (Some Bw64) h = absurd cc
some_mov (Some Avi) h = absurd cc
some_mov (Some Mov) h = refl

-- a supported movie is of the kind of movies
pub is_mov_file : (o : List ℕ) → mov_why.why o ≡ None → kind_at o ≡ Some Mov
is_mov_file o fine = kind_read o ∙ some_mov (kind o) (none_supported o fine).readable.kind

-- ---- an AVI file

-- a form of one type is of no other
other_type : (id a b x : List ℕ) → bytes_eq (take 4 (drop 8 x)) a ≡ true → bytes_eq a b ≡ false → is_form_of id b x ≡ false
other_type id a b x h differ = ap (λ (t : Bool). bytes_eq (take 4 x) id && t) (ap (λ (y : List ℕ). bytes_eq y b) (same_true (take 4 (drop 8 x)) a h) ∙ differ) ∙ and_none (bytes_eq (take 4 x) id)
  where
    and_none : (t : Bool) → (t && false) ≡ false
    and_none true = refl
    and_none false = refl

fourth : (t u v w : Bool) (rest : Option Kind) → t ≡ false → u ≡ false → v ≡ false → w ≡ true → cond t (Some Wave) (cond u (Some Rf64) (cond v (Some Bw64) (cond w (Some Avi) rest))) ≡ Some Avi
fourth true u v w rest e f g h = absurd cc
fourth false true v w rest e f g h = absurd cc
fourth false false true w rest e f g h = absurd cc
fourth false false false true rest e f g h = refl
fourth false false false false rest e f g h = absurd cc

-- a supported AVI file is of the kind of AVI files
pub avi_is_read : (o : List ℕ) → why_named o ≡ None → kind_at o ≡ Some Avi
avi_is_read o fine =
    fourth (is_form_of (codes "RIFF") (codes "WAVE") b) (is_form_of (codes "RF64") (codes "WAVE") b) (is_form_of (codes "BW64") (codes "WAVE") b) (is_form_of (codes "RIFF") (codes "AVI ") b) (cond (is_movie b) (Some Mov) None)
    (other_type (codes "RIFF") (codes "AVI ") (codes "WAVE") b word refl) (other_type (codes "RF64") (codes "AVI ") (codes "WAVE") b word refl) (other_type (codes "BW64") (codes "AVI ") (codes "WAVE") b word refl) form
  where
    b : List ℕ
    b = take 12 o

    parts : (bytes_eq (take 4 o) (codes "RIFF") ≡ true) × (bytes_eq (take 4 (drop 8 o)) (codes "AVI ") ≡ true)
    parts = and_parts (bytes_eq (take 4 o) (codes "RIFF")) (bytes_eq (take 4 (drop 8 o)) (codes "AVI ")) (and_parts (leb 12 (length o)) _ (supported_by o fine).is_avi).1

    front : take 4 b ≡ take 4 o
    front = take-take 4 12 o (omega arith)

    behind : take 4 (drop 8 b) ≡ take 4 (drop 8 o)
    behind = ap (take 4) (drop-take 8 4 o) ∙ take-take 4 4 (drop 8 o) (omega arith)

    word : bytes_eq (take 4 (drop 8 b)) (codes "AVI ") ≡ true
    word = ap (λ (x : List ℕ). bytes_eq x (codes "AVI ")) behind ∙ parts.1

    form : is_form_of (codes "RIFF") (codes "AVI ") b ≡ true
    form = ap (λ (x : List ℕ). bytes_eq x (codes "RIFF") && bytes_eq (take 4 (drop 8 b)) (codes "AVI ")) front ∙ ap (λ (t : Bool). t && bytes_eq (take 4 (drop 8 b)) (codes "AVI ")) parts.0 ∙ word
