-- Lists that are short enough after an edit were ready for it.
use Rattle.std.proofs.Common.{◌≡◌, ℕ, ◌^◌, ◌≤◌, Bool, true, false, cond, List, [], ◌∷◌, ◌++◌, length, refl, ap, ◌∙◌, arith}
use Rattle.std.specs.List.{AllByRecursion}
use Rattle.container_model.specs.Chunk.{Chunk, ends}
use Rattle.container_model.specs.Items.{Item, put_all, edit_carrier}
use Rattle.carrier_model.specs.Cells.{leave, become, changed, change_at, counted, settle, Side, behind, before, Test, never, meets, beside, insert, acted}
use Rattle.carrier_model.specs.Lists.{part_of, concerns, items_of, all_items, home, edit_nth, has_carrier, sets_some, new_carrier, lists_act_by, lists_act, ReadyFrom, ActReady}
use Rattle.carrier_model.specs.Info.{list_run, list_of, info, info_items, InfoReady, ItemsSmall}
use Rattle.carrier_model.proofs.Cells.{All-parts}
use Rattle.carrier_model.proofs.Info.{small_items}
use Rattle.wave_model.specs.Fields.{is_info, bodies}

-- a property of bodies is one of their chunks
pub bodies_each : (p : Chunk → Bool) (P : List ℕ → Type 0) (cs : List Chunk) → AllByRecursion P (bodies p cs) → AllByRecursion (λ c. p c ≡ true → P c.body) cs
bodies_each p P [] h = tt
bodies_each p P (c ∷ cs) h = go (p c) refl h (bodies_each p P cs)
  where
    go : (t : Bool) → p c ≡ t → AllByRecursion P (cond t (c.body ∷ []) [] ++ bodies p cs) → (AllByRecursion P (bodies p cs) → AllByRecursion (λ c. p c ≡ true → P c.body) cs) → AllByRecursion (λ c. p c ≡ true → P c.body) (c ∷ cs)
    go true e g again = ((λ i. g.0), again g.1)
    go false e g again = ((λ i. absurd cc), again g)

pub each_body : (p : Chunk → Bool) (P : List ℕ → Type 0) (cs : List Chunk) → AllByRecursion (λ c. p c ≡ true → P c.body) cs → AllByRecursion P (bodies p cs)
each_body p P [] h = tt
each_body p P (c ∷ cs) h = go (p c) refl (each_body p P cs h.1)
  where
    go : (t : Bool) → p c ≡ t → AllByRecursion P (bodies p cs) → AllByRecursion P (cond t (c.body ∷ []) [] ++ bodies p cs)
    go true e g = (h.0 e, g)
    go false e g = g

abbrev pub ListEnds : Chunk → Type 0
ListEnds c = is_info c ≡ true → (list_run c).stop ≡ ends

abbrev pub ListSmall : Chunk → Type 0
ListSmall c = is_info c ≡ true → length c.body ≤ 2 ^ 24

ready_from : (h : List ℕ → ℕ) (e : List (Item (List ℕ))) (n : ℕ) (cs : List Chunk) → AllByRecursion ListEnds cs → AllByRecursion ListSmall (settle is_info (edit_nth info info_items h e) n cs) → ReadyFrom info info_items InfoReady h e n cs
ready_from h e n [] w s = tt
ready_from h e n (c ∷ cs) w s =
    let parts = All-parts ListSmall (changed (change_at is_info (edit_nth info info_items h e) n c) c) (settle is_info (edit_nth info info_items h e) (counted is_info n c) cs) s in
    ((λ is t. one is t parts.0), ready_from h e (counted is_info n c) cs w.1 parts.1)
  where
    one : is_info c ≡ true → concerns h n (items_of info info_items c) e ≡ true → AllByRecursion ListSmall (changed (change_at is_info (edit_nth info info_items h e) n c) c) → InfoReady (part_of h n e) c
    one is t g =
        let edited = edit_carrier info info_items (part_of h n e) c in
        let same : changed (change_at is_info (edit_nth info info_items h e) n c) c ≡ edited ∷ []
        = ap (λ (b : Bool). changed (cond b (edit_nth info info_items h e n c) leave) c) is ∙ ap (λ (b : Bool). changed (cond b (become (edited ∷ [])) leave) c) t in
        let k : AllByRecursion ListSmall (edited ∷ []) = rw same at g in
        (w.0 is, small_items (put_all info_items (part_of h n e) (list_run c).chunks) (list_run c).left (omega (arith, k.0 refl)))

inserted : (P : Chunk → Type 0) (s : Side) (t : Test) (x : Chunk) (cs : List Chunk) → AllByRecursion P (insert s t x cs) → P x
inserted P s t x [] h = h.0
inserted P s t x (c ∷ cs) h = go (meets t c) h (inserted P s t x cs)
  where
    both : (s : Side) → AllByRecursion P (beside s x c ++ cs) → P x
    both behind g = g.1.0
    both before g = g.0

    go : (b : Bool) → AllByRecursion P (cond b (beside s x c ++ cs) (c ∷ insert s t x cs)) → (AllByRecursion P (insert s t x cs) → P x) → P x
    go true g again = both s g
    go false g again = again g.1

pub act_ready : (e : List (Item (List ℕ))) (cs : List Chunk) → AllByRecursion ListEnds cs → AllByRecursion ListSmall (acted (lists_act info info_items never e cs) cs) → ActReady info info_items InfoReady ItemsSmall e cs
act_ready e cs w s = (there, none)
  where
    there : has_carrier info cs ≡ true → ReadyFrom info info_items InfoReady (home (all_items info info_items cs)) e 0 cs
    there t =
        let g : AllByRecursion ListSmall (acted (lists_act_by info info_items never e cs true) cs) = rw t at s in
        ready_from (home (all_items info info_items cs)) e 0 cs w g

    none : has_carrier info cs ≡ false → sets_some e ≡ true → ItemsSmall (put_all info_items e [])
    none t u =
        let g : AllByRecursion ListSmall (acted (new_carrier info info_items never e true) cs) = rw (t, u) at s in
        let k = inserted ListSmall behind never (list_of (put_all info_items e []) []) cs g in
        small_items (put_all info_items e []) [] (omega (arith, k refl))
