-- Clause 2 with tables: the fields of the new file are the old ones updated, whatever numbers are written.
use Rattle.std.proofs.Common.{◌≡◌, ℕ, ◌+◌, ◌^◌, ◌<◌, true, false, List, [], ◌∷◌, ◌++◌, length, refl, sym, ap, subst, ◌∙◌, inl, inr}
use Rattle.std.specs.Prelude.{◌⊎◌, codes}
use Rattle.std.specs.List.{AllByRecursion}
use Rattle.container_model.specs.Chunk.{Chunk, ends, spell}
use Rattle.container_model.specs.Splice.{shift}
use Rattle.container_model.specs.Written.{Write, written}
use Rattle.container_model.proofs.Written.{renew, renewed}
use Rattle.container_model.specs.Items.{updated}
use Rattle.carrier_model.specs.Lists.{values_held, list_values}
use Rattle.carrier_model.specs.Info.{info, info_items, is_type, list_run, SetsInfo}
use Rattle.avi_model.specs.Avi.{Avi, inner, spell_avi, avi_of}
use Rattle.opendml_index.specs.Index.{move}
use Rattle.avi_model.specs.Index.{writes}
use Rattle.avi_model.specs.NewFile.{Items, new_children, laid, edit_cuts, laid_file}
use Rattle.avi_model.specs.Edited.{info_values}
use Rattle.avi_model.proofs.Read.{renewed_avi, Readable, Frames, written_avi, avi_again}
use Rattle.avi_model.proofs.Cuts.{AllAlone}
use Rattle.avi_model.proofs.Edit.{laid_fields, Ready}

-- each LIST INFO is read to its end
abbrev pub ListsEnd : List Chunk → Type 0
ListsEnd cs = AllByRecursion (λ c. is_type (codes "INFO") c ≡ true → (list_run c).stop ≡ ends) cs

module _ (ws : List Write) where
  pub values_same : (name : List ℕ) (at : ℕ) (cs : List Chunk) → AllAlone ws at cs → list_values info info_items name (renewed ws at cs) ≡ list_values info info_items name cs
  values_same name at [] h = refl
  values_same name at (c ∷ cs) h = ap (λ (x : List (List ℕ)). x ++ list_values info info_items name (renewed ws (at + length (spell c)) cs)) (one h.0.1.0) ∙ ap (λ (x : List (List ℕ)). values_held info info_items name c ++ x) (values_same name (at + length (spell c)) cs h.1)
    where
      one : (renew ws at c ≡ c) ⊎ ((is_type (codes "INFO") c ≡ false) × (is_type (codes "INFO") (renew ws at c) ≡ false)) → values_held info info_items name (renew ws at c) ≡ values_held info info_items name c
      one (inl i) = ap (values_held info info_items name) i
      one (inr n) = rw (n.0, n.1) refl

  pub lists_end : (at : ℕ) (cs : List Chunk) → AllAlone ws at cs → ListsEnd cs → ListsEnd (renewed ws at cs)
  lists_end at [] h g = tt
  lists_end at (c ∷ cs) h g = (one h.0.1.0, lists_end (at + length (spell c)) cs h.1 g.1)
    where
      one : (renew ws at c ≡ c) ⊎ ((is_type (codes "INFO") c ≡ false) × (is_type (codes "INFO") (renew ws at c) ≡ false)) → is_type (codes "INFO") (renew ws at c) ≡ true → (list_run (renew ws at c)).stop ≡ ends
      one (inl i) = subst (λ (d : Chunk). is_type (codes "INFO") d ≡ true → (list_run d).stop ≡ ends) (sym i) g.0
      one (inr n) = λ e. absurd cc

module _ (o : List ℕ) (e : Items) where
  abbrev a : Avi
  a = avi_of o

  abbrev ws : List Write
  ws = writes (move (shift (edit_cuts (avi_of o) e))) o

  -- the fields of the new file
  pub new_fields : (name : List ℕ) → o ≡ spell_avi a → Frames ws a → Readable (renewed_avi ws a) → AllAlone ws 12 a.children → length (inner (new_children (renewed_avi ws a) e) a.left) < 2 ^ 32
      → SetsInfo e → Ready (renewed_avi ws a) e
      → info_values (laid_file o e) name ≡ updated e name (info_values o name)
  unfolding laid_file
  new_fields name spelled frames readable alone small sets ready =
      let b = renewed_avi ws a in
      let over : written ws 0 o ≡ spell_avi b = ap (written ws 0) spelled ∙ written_avi ws a frames in
      let read : avi_of (written ws 0 o) ≡ b = ap avi_of over ∙ avi_again b readable in
      ap (λ (x : Avi). info_values (spell_avi (laid x e)) name) read ∙ laid_fields b e name readable small sets ready ∙ ap (updated e name) (values_same ws name 12 a.children alone)
