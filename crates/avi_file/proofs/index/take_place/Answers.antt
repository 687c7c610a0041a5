use Rattle.std.proofs.Common.{◌≡◌, ◌∷◌, [], Bool, false, List, sym, subst}
use Rattle.std.specs.Prelude.{◌==◌}
use Rattle.std.proofs.lemmas.Bool.{ne_eqb}
use Rattle.std.proofs.lemmas.List.{append-nil}
use Rattle.opendml_index.specs.Index.{place_by}
use Rattle.avi_model.specs.Why.{Test}
use Rattle.avi_file.specs.Indexes.{ReadsNamed, kept_at, named_tests, places_tests}
use Rattle.avi_file.proofs.index.take_place.Goals as goal

pub returns-clause-took : goal.returns-clause-took
returns-clause-took g c b holds =
    let p = c.args.place in
    let some : (p == 0) ≡ false = ne_eqb p 0 c.if-place-eq0.false in
    subst (λ (t : Bool). ReadsNamed (places_tests c.args.movis.now b (place_by p t)) (kept_at b (place_by p t)) c.args.named.now.items c.take_named.new.named.items c.take_named.result) (sym some)
    (subst (λ (ts : List Test). ReadsNamed ts (kept_at b (p ∷ [])) c.args.named.now.items c.take_named.new.named.items c.take_named.result) (sym (append-nil (named_tests c.args.movis.now b p))) (c.take_named.ensures.took b holds))
