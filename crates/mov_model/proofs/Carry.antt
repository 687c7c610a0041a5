-- One step of an edit of the atoms of moov: the first carrier is edited, or a new one is put last.
use Rattle.std.proofs.Common.{Bool, List, None, Option, Some, [], ap, cond, false, map, refl, suc, sym, true, ℕ, ◌++◌, ◌∙◌, ◌∷◌, ◌≡◌}
use Rattle.std.specs.Prelude.{IfSome, codes, ◌||◌}
use Rattle.std.proofs.lemmas.List.{append-nil}
use Rattle.std.proofs.lemmas.List.Concat.{flat_map-append}
use Rattle.std.specs.List.{AllByRecursion, flat_map, list_any}
use Rattle.std.specs.Str.{bytes_eq}
use Rattle.container_model.proofs.Units.{All-both}
use Rattle.container_model.specs.Atoms.{is}
use Rattle.container_model.specs.Chunk.{Chunk}
use Rattle.container_model.specs.Items.{listed}
use Rattle.container_model.specs.Units.{solid, solids}
use Rattle.carrier_model.specs.Cells.{acted, behind, insert, never, settle, some_meets}
use Rattle.mov_model.specs.Atoms.{is_padding}
use Rattle.mov_model.specs.Carried.{carry, carry_by, first_becomes}
use Rattle.mov_model.specs.Parts.{first_of, track_of}
use Rattle.mov_model.specs.Tables.{relocated}
use Rattle.mov_model.proofs.Tables.{relocated_id, relocated_other}

abbrev pub strip : Chunk → Chunk
strip c = record c { pad = [] }

-- ---- what a step makes of chunks

-- the first carrier is changed
abbrev pub first_one : (Chunk → Bool) → (Chunk → Chunk) → List Chunk → List Chunk
first_one is g [] = []
first_one is g (c ∷ cs) = cond (is c) (g c ∷ cs) (c ∷ first_one is g cs)

abbrev pub edit_by : (Chunk → Bool) → (Chunk → Chunk) → Option Chunk → List Chunk → Bool → List Chunk
edit_by is g new cs true = first_one is g cs
edit_by is g new cs false = cs ++ listed new

abbrev pub edited_by : (Chunk → Bool) → (Chunk → Chunk) → Option Chunk → List Chunk → List Chunk
edited_by is g new cs = edit_by is g new cs (list_any is cs)

settle_past : (is : Chunk → Bool) (g : Chunk → Chunk) (n : ℕ) (cs : List Chunk) → settle is (first_becomes g) (suc n) cs ≡ cs
settle_past is g n [] = refl
settle_past is g n (c ∷ cs) = go (is c) (settle_past is g n cs) (settle_past is g (suc n) cs)
  where
    go : (t : Bool) → settle is (first_becomes g) (suc n) cs ≡ cs → settle is (first_becomes g) (suc (suc n)) cs ≡ cs
        → Rattle.carrier_model.specs.Cells.changed (cond t (first_becomes g (suc n) c) Rattle.carrier_model.specs.Cells.leave) c ++ settle is (first_becomes g) (cond t (suc (suc n)) (suc n)) cs ≡ c ∷ cs
    go true e h = ap (λ (x : List Chunk). c ∷ x) h
    go false e h = ap (λ (x : List Chunk). c ∷ x) e

settle_first : (is : Chunk → Bool) (g : Chunk → Chunk) (cs : List Chunk) → settle is (first_becomes g) 0 cs ≡ first_one is g cs
settle_first is g [] = refl
settle_first is g (c ∷ cs) = go (is c) (settle_first is g cs)
  where
    go : (t : Bool) → settle is (first_becomes g) 0 cs ≡ first_one is g cs
        → Rattle.carrier_model.specs.Cells.changed (cond t (first_becomes g 0 c) Rattle.carrier_model.specs.Cells.leave) c ++ settle is (first_becomes g) (cond t 1 0) cs ≡ cond t (g c ∷ cs) (c ∷ first_one is g cs)
    go true e = ap (λ (x : List Chunk). g c ∷ x) (settle_past is g 0 cs)
    go false e = ap (λ (x : List Chunk). c ∷ x) e

put_last : (c : Chunk) (cs : List Chunk) → insert behind never c cs ≡ cs ++ c ∷ []
put_last c [] = refl
put_last c (d ∷ cs) = ap (λ (x : List Chunk). d ∷ x) (put_last c cs)

-- no chunk meets a test that none meets
pub none_meets : (cs : List Chunk) → some_meets never cs ≡ false
none_meets [] = refl
none_meets (c ∷ cs) = none_meets cs

pub carry_is : (is : Chunk → Bool) (g : Chunk → Chunk) (new : Option Chunk) (cs : List Chunk) → acted (carry is g new cs) cs ≡ edited_by is g new cs
carry_is is g new cs = go (list_any is cs) new
  where
    go : (t : Bool) (n : Option Chunk) → acted (carry_by is g n t) cs ≡ edit_by is g n cs t
    go true n = settle_first is g cs
    go false None = sym (append-nil cs)
    go false (Some c) = put_last c cs

-- ---- a sort of atoms

-- what a carrier is: no padding and no track, whatever its pad
pub record Sort (is : Chunk → Bool) : Type 0 where
  pub stripped : (c : Chunk) → is (strip c) ≡ is c
  pub no_padding : (c : Chunk) → is c ≡ true → is_padding c.id ≡ false
  pub no_track : (c : Chunk) → is c ≡ true → Rattle.container_model.specs.Atoms.is c (codes "trak") ≡ false

-- an edit of one, which keeps its type and doesn't look at its pad
pub record Edits (g : Chunk → Chunk) : Type 0 where
  pub same_id : (c : Chunk) → (g c).id ≡ c.id
  pub no_pad : (c : Chunk) → g (strip c) ≡ strip (g c)

-- a new one
pub record Fresh (c : Chunk) : Type 0 where
  pub solid : is_padding c.id ≡ false
  pub no_pad : c.pad ≡ []
  pub no_track : Rattle.container_model.specs.Atoms.is c (codes "trak") ≡ false

pub padding_not : (is : Chunk → Bool) → Sort is → (c : Chunk) → is_padding c.id ≡ true → is c ≡ false
padding_not is s c e = go (is c) refl
  where
    go : (t : Bool) → is c ≡ t → t ≡ false
    go true i = let no = s.no_padding c i in absurd cc
    go false i = refl

pub track_not : (is : Chunk → Bool) → Sort is → (c : Chunk) → Rattle.container_model.specs.Atoms.is c (codes "trak") ≡ true → is c ≡ false
track_not is s c e = go (is c) refl
  where
    go : (t : Bool) → is c ≡ t → t ≡ false
    go true i = let no = s.no_track c i in absurd cc
    go false i = refl

pub first_solids : (is : Chunk → Bool) → Sort is → (cs : List Chunk) → first_of is (solids is_padding cs) ≡ map strip (first_of is cs)
first_solids is s [] = refl
first_solids is s (c ∷ cs) = go (is_padding c.id) refl (first_solids is s cs)
  where
    kept_one : (t : Bool) → first_of is (solids is_padding cs) ≡ map strip (first_of is cs) → cond t (strip c ∷ []) (first_of is (solids is_padding cs)) ≡ map strip (cond t (c ∷ []) (first_of is cs))
    kept_one true again = refl
    kept_one false again = again

    go : (t : Bool) → is_padding c.id ≡ t → first_of is (solids is_padding cs) ≡ map strip (first_of is cs)
        → first_of is (cond t [] (strip c ∷ []) ++ solids is_padding cs) ≡ map strip (cond (is c) (c ∷ []) (first_of is cs))
    go true e again = rw (padding_not is s c e) again
    go false e again = ap (λ (t : Bool). cond t (strip c ∷ []) (first_of is (solids is_padding cs))) (s.stripped c) ∙ kept_one (is c) again

pub any_solids : (is : Chunk → Bool) → Sort is → (cs : List Chunk) → list_any is (solids is_padding cs) ≡ list_any is cs
any_solids is s [] = refl
any_solids is s (c ∷ cs) = go (is_padding c.id) refl (any_solids is s cs)
  where
    go : (t : Bool) → is_padding c.id ≡ t → list_any is (solids is_padding cs) ≡ list_any is cs → list_any is (cond t [] (strip c ∷ []) ++ solids is_padding cs) ≡ (is c || list_any is cs)
    go true e again = rw (padding_not is s c e) again
    go false e again = rw (s.stripped c, again) refl

solids-append : (a b : List Chunk) → solids is_padding (a ++ b) ≡ solids is_padding a ++ solids is_padding b
solids-append a b = flat_map-append (solid is_padding) a b

-- ---- padding is not looked at

module _ (is : Chunk → Bool) (g : Chunk → Chunk) (new : Option Chunk) (s : Sort is) (h : Edits g) (n : IfSome new Fresh) where
  solids_first : (cs : List Chunk) → solids is_padding (first_one is g cs) ≡ first_one is g (solids is_padding cs)
  solids_first [] = refl
  solids_first (c ∷ cs) = go (is_padding c.id) refl (solids_first cs)
    where
      kept_one : (t : Bool) → is_padding c.id ≡ false → solids is_padding (first_one is g cs) ≡ first_one is g (solids is_padding cs)
          → solids is_padding (cond t (g c ∷ cs) (c ∷ first_one is g cs)) ≡ cond t (g (strip c) ∷ solids is_padding cs) (strip c ∷ first_one is g (solids is_padding cs))
      kept_one true e again = let p : is_padding (g c).id ≡ false = ap is_padding (h.same_id c) ∙ e in rw (p, h.no_pad c) refl
      kept_one false e again = rw (e, again) refl

      go : (t : Bool) → is_padding c.id ≡ t → solids is_padding (first_one is g cs) ≡ first_one is g (solids is_padding cs)
          → solids is_padding (cond (is c) (g c ∷ cs) (c ∷ first_one is g cs)) ≡ first_one is g (cond t [] (strip c ∷ []) ++ solids is_padding cs)
      go true e again = ap (λ (t : Bool). solids is_padding (cond t (g c ∷ cs) (c ∷ first_one is g cs))) (padding_not is s c e) ∙ rw (e, again) refl
      go false e again = kept_one (is c) e again ∙ ap (λ (t : Bool). cond t (g (strip c) ∷ solids is_padding cs) (strip c ∷ first_one is g (solids is_padding cs))) (sym (s.stripped c))

  solid_new : (m : Option Chunk) → IfSome m Fresh → solids is_padding (listed m) ≡ listed m
  solid_new None f = refl
  solid_new (Some c) f = rw (f.solid, f.no_pad) refl

  pub solids_edited : (cs : List Chunk) → solids is_padding (edited_by is g new cs) ≡ edited_by is g new (solids is_padding cs)
  solids_edited cs = go (list_any is cs) ∙ ap (edit_by is g new (solids is_padding cs)) (sym (any_solids is s cs))
    where
      go : (t : Bool) → solids is_padding (edit_by is g new cs t) ≡ edit_by is g new (solids is_padding cs) t
      go true = solids_first cs
      go false = solids-append cs (listed new) ∙ ap (λ (x : List Chunk). solids is_padding cs ++ x) (solid_new new n)

  -- ---- a step and a relocation are in either order the same

  module _ (f : ℕ → ℕ) where
    pub relocated_same : (c : Chunk) → is c ≡ true → relocated f c ≡ c
    relocated_same c u = relocated_other f c (s.no_track c u)

    pub relocated_sort : (c : Chunk) → is (relocated f c) ≡ is c
    relocated_sort c = go (Rattle.container_model.specs.Atoms.is c (codes "trak")) refl
      where
        go : (t : Bool) → Rattle.container_model.specs.Atoms.is c (codes "trak") ≡ t → is (relocated f c) ≡ is c
        go true e =
            let same : Rattle.container_model.specs.Atoms.is (relocated f c) (codes "trak") ≡ true = ap (λ (x : List ℕ). bytes_eq x (codes "trak")) (relocated_id f c) ∙ e in
            track_not is s (relocated f c) same ∙ sym (track_not is s c e)
        go false e = ap is (relocated_other f c e)

    pub any_relocated : (cs : List Chunk) → list_any is (map (relocated f) cs) ≡ list_any is cs
    any_relocated [] = refl
    any_relocated (c ∷ cs) = rw (relocated_sort c, any_relocated cs) refl

    pub first_of_relocated : (cs : List Chunk) → first_of is (map (relocated f) cs) ≡ first_of is cs
    first_of_relocated [] = refl
    first_of_relocated (c ∷ cs) = ap (λ (t : Bool). cond t (relocated f c ∷ []) (first_of is (map (relocated f) cs))) (relocated_sort c) ∙ go (is c) refl (first_of_relocated cs)
      where
        go : (t : Bool) → is c ≡ t → first_of is (map (relocated f) cs) ≡ first_of is cs → cond t (relocated f c ∷ []) (first_of is (map (relocated f) cs)) ≡ cond t (c ∷ []) (first_of is cs)
        go true u again = ap (λ (x : Chunk). x ∷ []) (relocated_same c u)
        go false u again = again

    edit_no_track : (c : Chunk) → is c ≡ true → relocated f (g c) ≡ g c
    edit_no_track c u = relocated_other f (g c) (ap (λ (x : List ℕ). bytes_eq x (codes "trak")) (h.same_id c) ∙ s.no_track c u)

    relocated_first : (cs : List Chunk) → map (relocated f) (first_one is g cs) ≡ first_one is g (map (relocated f) cs)
    relocated_first [] = refl
    relocated_first (c ∷ cs) =
        go (is c) refl (relocated_first cs) ∙ ap (λ (t : Bool). cond t (g (relocated f c) ∷ map (relocated f) cs) (relocated f c ∷ first_one is g (map (relocated f) cs))) (sym (relocated_sort c))
      where
        go : (t : Bool) → is c ≡ t → map (relocated f) (first_one is g cs) ≡ first_one is g (map (relocated f) cs)
            → map (relocated f) (cond t (g c ∷ cs) (c ∷ first_one is g cs)) ≡ cond t (g (relocated f c) ∷ map (relocated f) cs) (relocated f c ∷ first_one is g (map (relocated f) cs))
        go true u again = ap (λ (x : Chunk). x ∷ map (relocated f) cs) (edit_no_track c u ∙ ap g (sym (relocated_same c u)))
        go false u again = ap (λ (x : List Chunk). relocated f c ∷ x) again

    relocated_new : (m : Option Chunk) → IfSome m Fresh → map (relocated f) (listed m) ≡ listed m
    relocated_new None k = refl
    relocated_new (Some c) k = ap (λ (x : Chunk). x ∷ []) (relocated_other f c k.no_track)

    map-chunks : (a b : List Chunk) → map (relocated f) (a ++ b) ≡ map (relocated f) a ++ map (relocated f) b
    map-chunks [] b = refl
    map-chunks (c ∷ a) b = ap (λ (x : List Chunk). relocated f c ∷ x) (map-chunks a b)

    pub relocated_edited : (cs : List Chunk) → map (relocated f) (edited_by is g new cs) ≡ edited_by is g new (map (relocated f) cs)
    relocated_edited cs = go (list_any is cs) ∙ ap (edit_by is g new (map (relocated f) cs)) (sym (any_relocated cs))
      where
        go : (t : Bool) → map (relocated f) (edit_by is g new cs t) ≡ edit_by is g new (map (relocated f) cs) t
        go true = relocated_first cs
        go false = map-chunks cs (listed new) ∙ ap (λ (x : List Chunk). map (relocated f) cs ++ x) (relocated_new new n)

  -- ---- tracks

  tracks_first : (cs : List Chunk) → flat_map track_of (first_one is g cs) ≡ flat_map track_of cs
  tracks_first [] = refl
  tracks_first (c ∷ cs) = go (is c) refl (tracks_first cs)
    where
      go : (t : Bool) → is c ≡ t → flat_map track_of (first_one is g cs) ≡ flat_map track_of cs → flat_map track_of (cond t (g c ∷ cs) (c ∷ first_one is g cs)) ≡ track_of c ++ flat_map track_of cs
      go true u again = let now : Rattle.container_model.specs.Atoms.is (g c) (codes "trak") ≡ false = ap (λ (x : List ℕ). bytes_eq x (codes "trak")) (h.same_id c) ∙ s.no_track c u in rw (now, s.no_track c u) refl
      go false u again = ap (λ (x : List Chunk). track_of c ++ x) again

  new_track : (m : Option Chunk) → IfSome m Fresh → flat_map track_of (listed m) ≡ []
  new_track None k = refl
  new_track (Some c) k = rw k.no_track refl

  pub tracks_edited : (cs : List Chunk) → flat_map track_of (edited_by is g new cs) ≡ flat_map track_of cs
  tracks_edited cs = go (list_any is cs)
    where
      go : (t : Bool) → flat_map track_of (edit_by is g new cs t) ≡ flat_map track_of cs
      go true = tracks_first cs
      go false = flat_map-append track_of cs (listed new) ∙ rw (new_track new n) (append-nil (flat_map track_of cs))

-- ---- what holds of each atom after a step

module _ (is : Chunk → Bool) (g : Chunk → Chunk) (new : Option Chunk) (P : Chunk → Type 0) where
  all_first : (cs : List Chunk) → AllByRecursion P cs → AllByRecursion (λ c. P (g c)) (first_of is cs) → AllByRecursion P (first_one is g cs)
  all_first [] h w = tt
  all_first (c ∷ cs) h w = go (is c) w (all_first cs h.1)
    where
      go : (t : Bool) → AllByRecursion (λ c. P (g c)) (cond t (c ∷ []) (first_of is cs)) → (AllByRecursion (λ c. P (g c)) (first_of is cs) → AllByRecursion P (first_one is g cs)) → AllByRecursion P (cond t (g c ∷ cs) (c ∷ first_one is g cs))
      go true w again = (w.0, h.1)
      go false w again = (h.0, again w)

  all_new : (m : Option Chunk) → IfSome m P → AllByRecursion P (listed m)
  all_new None h = tt
  all_new (Some c) h = (h, tt)

  pub all_edited : (cs : List Chunk) → AllByRecursion P cs → AllByRecursion (λ c. P (g c)) (first_of is cs) → (list_any is cs ≡ false → IfSome new P) → AllByRecursion P (edited_by is g new cs)
  all_edited cs h w k = go (list_any is cs) refl
    where
      go : (t : Bool) → list_any is cs ≡ t → AllByRecursion P (edit_by is g new cs t)
      go true e = all_first cs h w
      go false e = All-both P cs (listed new) h (all_new new (k e))

-- what follows of the first from what holds of all and of the first
pub first_both : (is : Chunk → Bool) (P Q R : Chunk → Type 0) → ((c : Chunk) → is c ≡ true → P c → Q c → R c) → (cs : List Chunk) → AllByRecursion P cs → AllByRecursion Q (first_of is cs) → AllByRecursion R (first_of is cs)
first_both is P Q R f [] h w = tt
first_both is P Q R f (c ∷ cs) h w = go (is c) refl w (first_both is P Q R f cs h.1)
  where
    go : (t : Bool) → is c ≡ t → AllByRecursion Q (cond t (c ∷ []) (first_of is cs)) → (AllByRecursion Q (first_of is cs) → AllByRecursion R (first_of is cs)) → AllByRecursion R (cond t (c ∷ []) (first_of is cs))
    go true u w again = (f c u h.0 w.0, tt)
    go false u w again = again w

pub first_all : (is : Chunk → Bool) (P R : Chunk → Type 0) → ((c : Chunk) → is c ≡ true → P c → R c) → (cs : List Chunk) → AllByRecursion P cs → AllByRecursion R (first_of is cs)
first_all is P R f [] h = tt
first_all is P R f (c ∷ cs) h = go (is c) refl (first_all is P R f cs h.1)
  where
    go : (t : Bool) → is c ≡ t → AllByRecursion R (first_of is cs) → AllByRecursion R (cond t (c ∷ []) (first_of is cs))
    go true u again = (f c u h.0, tt)
    go false u again = again

-- ---- the first of a sort after a step

module _ (is : Chunk → Bool) (g : Chunk → Chunk) (new : Option Chunk) where
  -- the first carrier itself
  pub first_first : (cs : List Chunk) → AllByRecursion (λ c. is (g c) ≡ true) (first_of is cs) → first_of is (first_one is g cs) ≡ map g (first_of is cs)
  first_first [] w = refl
  first_first (c ∷ cs) w = go (is c) refl w (first_first cs)
    where
      go : (t : Bool) → is c ≡ t → AllByRecursion (λ c. is (g c) ≡ true) (cond t (c ∷ []) (first_of is cs)) → (AllByRecursion (λ c. is (g c) ≡ true) (first_of is cs) → first_of is (first_one is g cs) ≡ map g (first_of is cs))
          → first_of is (cond t (g c ∷ cs) (c ∷ first_one is g cs)) ≡ map g (cond t (c ∷ []) (first_of is cs))
      go true u w again = rw w.0 refl
      go false u w again = rw u (again w)

  pub first_behind : (cs more : List Chunk) → list_any is cs ≡ false → first_of is (cs ++ more) ≡ first_of is more
  first_behind [] more e = refl
  first_behind (c ∷ cs) more e = go (is c) e (first_behind cs more)
    where
      go : (t : Bool) → (t || list_any is cs) ≡ false → (list_any is cs ≡ false → first_of is (cs ++ more) ≡ first_of is more) → cond t (c ∷ []) (first_of is (cs ++ more)) ≡ first_of is more
      go true e again = absurd cc
      go false e again = again e

  pub first_new : (m : Option Chunk) → IfSome m (λ c. is c ≡ true) → first_of is (listed m) ≡ listed m
  first_new None k = refl
  first_new (Some c) k = rw k refl

  abbrev pub firsts : List Chunk → Bool → List Chunk
  firsts cs true = map g (first_of is cs)
  firsts cs false = listed new

  pub first_edited : (cs : List Chunk) → AllByRecursion (λ c. is (g c) ≡ true) (first_of is cs) → IfSome new (λ c. is c ≡ true) → first_of is (edited_by is g new cs) ≡ firsts cs (list_any is cs)
  first_edited cs w k = go (list_any is cs) refl
    where
      go : (t : Bool) → list_any is cs ≡ t → first_of is (edit_by is g new cs t) ≡ firsts cs t
      go true e = first_first cs w
      go false e = first_behind cs (listed new) e ∙ first_new new k

  -- one of another sort
  module _ (other : Chunk → Bool) (apart : (c : Chunk) → is c ≡ true → (other c ≡ false) × (other (g c) ≡ false)) (none : IfSome new (λ c. other c ≡ false)) where
    other_first : (cs : List Chunk) → (first_of other (first_one is g cs) ≡ first_of other cs) × (list_any other (first_one is g cs) ≡ list_any other cs)
    other_first [] = (refl, refl)
    other_first (c ∷ cs) = go (is c) refl (other_first cs)
      where
        go : (t : Bool) → is c ≡ t → (first_of other (first_one is g cs) ≡ first_of other cs) × (list_any other (first_one is g cs) ≡ list_any other cs)
            → (first_of other (cond t (g c ∷ cs) (c ∷ first_one is g cs)) ≡ cond (other c) (c ∷ []) (first_of other cs)) × (list_any other (cond t (g c ∷ cs) (c ∷ first_one is g cs)) ≡ (other c || list_any other cs))
        go true u again = let a = apart c u in (rw (a.0, a.1) refl, rw (a.0, a.1) refl)
        go false u again = (ap (λ (x : List Chunk). cond (other c) (c ∷ []) x) again.0, ap (λ (x : Bool). other c || x) again.1)

    other_behind : (cs : List Chunk) (m : Option Chunk) → IfSome m (λ c. other c ≡ false) → (first_of other (cs ++ listed m) ≡ first_of other cs) × (list_any other (cs ++ listed m) ≡ list_any other cs)
    other_behind [] None k = (refl, refl)
    other_behind [] (Some c) k = (rw k refl, rw k refl)
    other_behind (c ∷ cs) m k = let again = other_behind cs m k in (ap (λ (x : List Chunk). cond (other c) (c ∷ []) x) again.0, ap (λ (x : Bool). other c || x) again.1)

    pub other_edited : (cs : List Chunk) → (first_of other (edited_by is g new cs) ≡ first_of other cs) × (list_any other (edited_by is g new cs) ≡ list_any other cs)
    other_edited cs = go (list_any is cs)
      where
        go : (t : Bool) → (first_of other (edit_by is g new cs t) ≡ first_of other cs) × (list_any other (edit_by is g new cs t) ≡ list_any other cs)
        go true = other_first cs
        go false = other_behind cs new none
