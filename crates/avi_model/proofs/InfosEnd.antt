-- The lists of fields end again after an edit of them.
use Rattle.std.proofs.Common.{◌≡◌, ℕ, ◌+◌, Bool, true, false, cond, List, [], ◌∷◌, ◌++◌, length, refl, sym, ap, subst}
use Rattle.std.specs.Prelude.{codes}
use Rattle.std.specs.List.{flat_map, AllByRecursion}
use Rattle.container_model.specs.Chunk.{Chunk, Stop, ends, spell}
use Rattle.container_model.specs.Stood.{bare, stood, only}
use Rattle.carrier_model.specs.Info.{info, info_items, is_type, list_run, SetsInfo}
use Rattle.carrier_model.specs.Lists.{edit_lists}
use Rattle.carrier_model.proofs.Info.{padding_no_list}
use Rattle.avi_model.specs.Avi.{Avi}
use Rattle.avi_model.specs.NewFile.{Items, home as behind_hdrl, new_children}
use Rattle.avi_model.specs.Support.{ListEnds}
use Rattle.avi_model.proofs.Edit.{EndsList, Ready, laid_ends, seen, solid}

stand : (at : ℕ) (cs : List Chunk) → AllByRecursion EndsList cs → AllByRecursion ListEnds (only (is_type (codes "INFO")) (stood at cs))
stand at [] h = tt
stand at (c ∷ cs) h = go (is_type (codes "INFO") c) refl (stand (at + length (spell c)) cs h.1)
  where
    go : (t : Bool) → is_type (codes "INFO") c ≡ t → AllByRecursion ListEnds (only (is_type (codes "INFO")) (stood (at + length (spell c)) cs)) → AllByRecursion ListEnds (cond t (record { at = at; chunk = bare c } ∷ only (is_type (codes "INFO")) (stood (at + length (spell c)) cs)) (only (is_type (codes "INFO")) (stood (at + length (spell c)) cs)))
    go true t h2 = (h.0 t, h2)
    go false t h2 = h2

stops : (cs : List Chunk) → AllByRecursion EndsList cs → AllByRecursion (λ (x : Stop). x ≡ ends) (flat_map (λ (c : Chunk). cond (info.is c) ((list_run c).stop ∷ []) []) cs)
stops [] h = tt
stops (c ∷ cs) h = go (info.is c) refl (stops cs h.1)
  where
    go : (t : Bool) → info.is c ≡ t → AllByRecursion (λ (x : Stop). x ≡ ends) (flat_map (λ (c : Chunk). cond (info.is c) ((list_run c).stop ∷ []) []) cs) → AllByRecursion (λ (x : Stop). x ≡ ends) (cond t ((list_run c).stop ∷ []) [] ++ flat_map (λ (c : Chunk). cond (info.is c) ((list_run c).stop ∷ []) []) cs)
    go true t k = (h.0 t, k)
    go false t k = k

chunks_end : (cs : List Chunk) → AllByRecursion (λ (x : Stop). x ≡ ends) (flat_map (λ (c : Chunk). cond (info.is c) ((list_run c).stop ∷ []) []) cs) → AllByRecursion EndsList cs
chunks_end [] h = tt
chunks_end (c ∷ cs) h = go (info.is c) refl h (λ k. chunks_end cs k)
  where
    go : (t : Bool) → info.is c ≡ t → AllByRecursion (λ (x : Stop). x ≡ ends) (cond t ((list_run c).stop ∷ []) [] ++ flat_map (λ (c : Chunk). cond (info.is c) ((list_run c).stop ∷ []) []) cs) → (AllByRecursion (λ (x : Stop). x ≡ ends) (flat_map (λ (c : Chunk). cond (info.is c) ((list_run c).stop ∷ []) []) cs) → AllByRecursion EndsList cs) → AllByRecursion EndsList (c ∷ cs)
    go true t h again = ((λ i. h.0), again h.1)
    go false t h again = ((λ i. absurd cc), again h)

-- Where the lists ended, and the edit is ready, the new ones end.
pub infos_laid : (x : Avi) (e : Items) → SetsInfo e → Ready x e → AllByRecursion EndsList x.children → AllByRecursion ListEnds (only (is_type (codes "INFO")) (stood 12 (new_children x e)))
infos_laid x e sets ready h =
    let v = λ (c : Chunk). cond (info.is c) ((list_run c).stop ∷ []) [] in
    let same = seen x e v (λ c. refl) (λ c p. ap (λ (t : Bool). cond t ((list_run c).stop ∷ []) []) (padding_no_list (codes "INFO") c p)) in
    stand 12 (new_children x e)
    (chunks_end (new_children x e) (subst (AllByRecursion (λ (x : Stop). x ≡ ends)) (sym same) (stops (edit_lists info info_items behind_hdrl e (solid x e)) (laid_ends x e sets ready h))))
