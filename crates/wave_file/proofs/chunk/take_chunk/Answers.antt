use Rattle.std.proofs.Common.{refl, arith, ap, sym, ◌∙◌, ◌≡◌, ◌+◌, ◌++◌, ◌∷◌, [], ℕ, Bool, length}
use Rattle.std.specs.Prelude.{◌||◌}
use Rattle.part_tree.specs.declared.part.Part.{Part}
use Rattle.container_model.specs.Items.{listed}
use Rattle.container_model.proofs.Windows.{length_slice}
use Rattle.me_disk.proofs.Holds.{holds_on}
use Rattle.riff_form.specs.Walk.{chunk_in}
use Rattle.wave_model.specs.Wave.{form_kind}
use Rattle.container_model.specs.Tests.{first}
use Rattle.wave_file.specs.Map.{role_of, at_front}
use Rattle.wave_file.specs.Tests.{early_tests}
use Rattle.wave_file.specs.Reads.{carries, is_ranges, one_if, seen_of}
use Rattle.wave_file.proofs.Roles.{role_carries, role_ranges}
use Rattle.wave_file.proofs.Firsts.{Kinds, Early, early_is, early_fails, late_is}
use Rattle.wave_file.proofs.Sound.{ends_on}
use Rattle.wave_file.proofs.Took.{seen_from, sound_fails, late_fails, seen_is, part_is, ascend_more, ranges_on}
use Rattle.wave_file.proofs.chunk.take_chunk.Goals as goal

pub returns-in-Some-clause-took : goal.returns-in-Some-clause-took
returns-in-Some-clause-took g c = λ b holds place.
    let k = c.args.found.now.chunk in
    let this = chunk_in b (form_kind c.args.found.now.wide) k in
    let seen = seen_of c.args.reading.now in
    let inside = c.requires.inside b holds in
    let long : length this.body ≡ k.body.len = length_slice b k.body.at k.body.len (omega (arith, inside, c.requires.order.whole)) in
    let role : c.in-Ok.role ≡ role_of this = c.in-Ok.ensures.role b holds in
    let kinds : Kinds this (carries c.in-Ok.role) (is_ranges c.in-Ok.role) = record { carrier_is = ap carries role ∙ role_carries this; bext_is = ap is_ranges role ∙ role_ranges this } in
    let early : first (early_tests seen this.id (length this.body) (carries c.in-Ok.role) (is_ranges c.in-Ok.role)) ≡ c.early_why.result
    = ap (λ (n : ℕ). first (early_tests seen this.id n (carries c.in-Ok.role) (is_ranges c.in-Ok.role))) long ∙ sym c.early_why.ensures in
    early_fails k.at seen this (carries c.in-Ok.role) (is_ranges c.in-Ok.role) c.in-Some.why kinds (early ∙ c.in-Some.is)

pub returns-in-Err-read_essence-clause-took : goal.returns-in-Err-read_essence-clause-took
returns-in-Err-read_essence-clause-took g c = λ b holds place.
    let k = c.args.found.now.chunk in
    let this = chunk_in b (form_kind c.args.found.now.wide) k in
    let seen = seen_of c.args.reading.now in
    let inside = c.requires.inside b holds in
    let long : length this.body ≡ k.body.len = length_slice b k.body.at k.body.len (omega (arith, inside, c.requires.order.whole)) in
    let role : c.in-Ok.role ≡ role_of this = c.in-Ok.ensures.role b holds in
    let kinds : Kinds this (carries c.in-Ok.role) (is_ranges c.in-Ok.role) = record { carrier_is = ap carries role ∙ role_carries this; bext_is = ap is_ranges role ∙ role_ranges this } in
    let early : first (early_tests seen this.id (length this.body) (carries c.in-Ok.role) (is_ranges c.in-Ok.role)) ≡ c.early_why.result
    = ap (λ (n : ℕ). first (early_tests seen this.id n (carries c.in-Ok.role) (is_ranges c.in-Ok.role))) long ∙ sym c.early_why.ensures in
    let passed = early ∙ c.in-None.is in
    let holds2 = holds_on (g.D.Depot.disk c.args.depot.now) (g.D.Depot.disk c.role_in.new.depot) b c.role_in.ensures.reads holds in
    sound_fails this k.at (carries c.in-Ok.role) (is_ranges c.in-Ok.role) c.args.reading.now c.args.reading.now c.in-Err-read_essence.fault kinds passed (c.in-Err-read_essence.ensures.essence b holds2 c.args.found.now.wide)

pub returns-in-Err-read_fields-clause-took : goal.returns-in-Err-read_fields-clause-took
returns-in-Err-read_fields-clause-took g c = λ b holds place.
    let k = c.args.found.now.chunk in
    let this = chunk_in b (form_kind c.args.found.now.wide) k in
    let seen = seen_of c.args.reading.now in
    let inside = c.requires.inside b holds in
    let long : length this.body ≡ k.body.len = length_slice b k.body.at k.body.len (omega (arith, inside, c.requires.order.whole)) in
    let role : c.in-Ok.role ≡ role_of this = c.in-Ok.ensures.role b holds in
    let kinds : Kinds this (carries c.in-Ok.role) (is_ranges c.in-Ok.role) = record { carrier_is = ap carries role ∙ role_carries this; bext_is = ap is_ranges role ∙ role_ranges this } in
    let early : first (early_tests seen this.id (length this.body) (carries c.in-Ok.role) (is_ranges c.in-Ok.role)) ≡ c.early_why.result
    = ap (λ (n : ℕ). first (early_tests seen this.id n (carries c.in-Ok.role) (is_ranges c.in-Ok.role))) long ∙ sym c.early_why.ensures in
    let passed = early ∙ c.in-None.is in
    let holds2 = holds_on (g.D.Depot.disk c.args.depot.now) (g.D.Depot.disk c.role_in.new.depot) b c.role_in.ensures.reads holds in
    let adds = c.in-Ok-read_essence.ensures.essence b holds2 c.args.found.now.wide in
    let holds3 = holds_on (g.D.Depot.disk c.role_in.new.depot) (g.D.Depot.disk c.read_essence.new.depot) b c.read_essence.ensures.reads holds2 in
    let late = late_is k.at seen this (carries c.in-Ok.role) (is_ranges c.in-Ok.role) kinds passed adds.tests in
    late_fails this k.at c.args.reading.now.count c.args.reading.now.fields c.read_fields.new.fields c.args.reading.now c.args.reading.now c.in-Err-read_fields.fault late (c.in-Err-read_fields.ensures.fields b holds3 c.args.found.now.wide role)

pub returns-in-Ok-push-clause-took : goal.returns-in-Ok-push-clause-took
returns-in-Ok-push-clause-took g c = λ b holds place.
    let k = c.args.found.now.chunk in
    let this = chunk_in b (form_kind c.args.found.now.wide) k in
    let seen = seen_of c.args.reading.now in
    let inside = c.requires.inside b holds in
    let long : length this.body ≡ k.body.len = length_slice b k.body.at k.body.len (omega (arith, inside, c.requires.order.whole)) in
    let role : c.in-Ok.role ≡ role_of this = c.in-Ok.ensures.role b holds in
    let kinds : Kinds this (carries c.in-Ok.role) (is_ranges c.in-Ok.role) = record { carrier_is = ap carries role ∙ role_carries this; bext_is = ap is_ranges role ∙ role_ranges this } in
    let early : first (early_tests seen this.id (length this.body) (carries c.in-Ok.role) (is_ranges c.in-Ok.role)) ≡ c.early_why.result
    = ap (λ (n : ℕ). first (early_tests seen this.id n (carries c.in-Ok.role) (is_ranges c.in-Ok.role))) long ∙ sym c.early_why.ensures in
    let passed = early ∙ c.in-None.is in
    let holds2 = holds_on (g.D.Depot.disk c.args.depot.now) (g.D.Depot.disk c.role_in.new.depot) b c.role_in.ensures.reads holds in
    let adds = c.in-Ok-read_essence.ensures.essence b holds2 c.args.found.now.wide in
    let holds3 = holds_on (g.D.Depot.disk c.role_in.new.depot) (g.D.Depot.disk c.read_essence.new.depot) b c.read_essence.ensures.reads holds2 in
    let late = late_is k.at seen this (carries c.in-Ok.role) (is_ranges c.in-Ok.role) kinds passed adds.tests in
    let added = c.in-Ok-read_fields.ensures.fields b holds3 c.args.found.now.wide role in
    let early_facts : Early seen this.id (length this.body) (is_ranges c.in-Ok.role) = early_is seen this.id (length this.body) (carries c.in-Ok.role) (is_ranges c.in-Ok.role) passed in
    let front : c.role_at.result ≡ at_front k.at (role_of this) = c.role_at.ensures ∙ ap (at_front k.at) role in
    record {
      tests = late ∙ added.tests;
      seen = ap (λ (t : Bool). seen_from (c.args.reading.now.count + c.in-Ok-read_fields.parts) (length (listed c.in-Ok-read_essence.essence.align)) (length (listed c.in-Ok-read_essence.essence.sound)) (one_if (c.args.reading.now.has_bext || t))) c.is_bext.ensures
          ∙ seen_is this k.at c.in-Ok-read_fields.parts c.args.reading.now c.in-Ok-read_essence.essence (is_ranges c.in-Ok.role) added.count adds kinds.bext_is early_facts.one_bext;
      parts = c.in-Ok-push.ensures.items
          ∙ ap (λ (x : Part). c.args.reading.now.parts.items ++ x ∷ []) (part_is this k.id k.at k.body.at k.body.len k.next c.role_at.result (at_front k.at (role_of this)) refl c.requires.order.body long place front);
      grown = added.grown;
      formats = adds.formats;
      sounds = adds.sounds;
    }

pub returns-in-Ok-push-clause-partial : goal.returns-in-Ok-push-clause-partial
returns-in-Ok-push-clause-partial g c =
    let k = c.args.found.now.chunk in
    let r = c.args.reading.now in
    let early_facts : Early (seen_of r) k.id.0 k.body.len (is_ranges c.in-Ok.role) = early_is (seen_of r) k.id.0 k.body.len (carries c.in-Ok.role) (is_ranges c.in-Ok.role) (sym c.early_why.ensures ∙ c.in-None.is) in
    record {
      few = c.in-Ok-read_fields.ensures.few.1;
      ascends = rw c.in-Ok-push.ensures.items (ascend_more 12 k.at k.next r.parts.items _ c.requires.partial.ascends (omega arith) c.requires.order.body c.requires.order.whole (omega arith));
      sound = ends_on (k.body.at + k.body.len) k.next c.in-Ok-read_essence.essence.sound c.requires.order.whole (c.in-Ok-read_essence.ensures.ends c.requires.partial.sound);
      ranges = rw c.is_bext.ensures (ranges_on c.in-Ok.role r.has_bext r.fields c.read_fields.new.fields early_facts.one_bext c.requires.partial.ranges c.in-Ok-read_fields.ensures.ranges);
      keys = λ key. c.in-Ok-read_fields.ensures.keys key ∙ c.requires.partial.keys key;
    }
