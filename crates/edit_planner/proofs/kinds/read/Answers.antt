use Rattle.std.proofs.Common.{◌≡◌, List, ℕ, true, false, Some, refl, sym, ap, ◌∙◌, subst}
use Rattle.me_disk.specs.Holds.{Holds}
use Rattle.me_disk.proofs.Holds.{holds_on}
use Rattle.field_model.specs.KindReads.{Refuses}
use Rattle.edit_planner.specs.Facts.{IsRead}
use Rattle.edit_planner.specs.Kinds.{is_avi, is_mov, is_sound, kind_at}
use Rattle.edit_planner.specs.Plan.{Maps}
use Rattle.edit_planner.proofs.OfKind.{avi_by, mov_by, of_wave, sound_by}
use Rattle.edit_planner.proofs.MapTells.{read_back, wave_read}
use Rattle.edit_planner.proofs.Ready.{holds_back}
use Rattle.edit_planner.proofs.kinds.read.Goals as goal

pub read_listed-requires : goal.read_listed-requires
read_listed-requires g c = λ o h.
    let held : Holds (g.D.Depot.disk c.args.depot.now) o = holds_back (g.D.Depot.disk c.args.depot.now) (g.D.Depot.disk c.read_kind.new.depot) o c.in-Ok.ensures.reads h in
    sym (c.in-Ok.ensures.kind o held) ∙ avi_by c.in-Ok.kind (sym c.is_avi.ensures ∙ c.if-is_avi.true)

pub returns-then-is_avi-clause-file : goal.returns-then-is_avi-clause-file
returns-then-is_avi-clause-file g c = λ o h.
    c.read_listed.ensures.file o (holds_on (g.D.Depot.disk c.args.depot.now) (g.D.Depot.disk c.read_kind.new.depot) o c.in-Ok.ensures.reads h)

pub returns-then-is_avi-clause-tells : goal.returns-then-is_avi-clause-tells
returns-then-is_avi-clause-tells g c = read_back (g.D.Depot.disk c.args.depot.now) (g.D.Depot.disk c.read_kind.new.depot) c.read_listed.result c.in-Ok.ensures.reads c.read_listed.ensures.tells

pub returns-in-Err-read_wave-clause-file : goal.returns-in-Err-read_wave-clause-file
returns-in-Err-read_wave-clause-file g c = λ o h.
    let held : Holds (g.D.Depot.disk c.read_kind.new.depot) o = holds_on (g.D.Depot.disk c.args.depot.now) (g.D.Depot.disk c.read_kind.new.depot) o c.in-Ok.ensures.reads h in
    let avi : is_avi (kind_at o) ≡ false = ap is_avi (sym (c.in-Ok.ensures.kind o h)) ∙ (sym c.is_avi.ensures ∙ c.if-is_avi.false) in
    let mov : is_mov (kind_at o) ≡ false = ap is_mov (sym (c.in-Ok.ensures.kind o h)) ∙ (sym c.is_mov.ensures ∙ c.if-is_mov.false) in
    let now : is_sound (kind_at o) ≡ true = sound_by (kind_at o) avi mov in
    of_wave (λ k. Refuses k o c.in-Err-read_wave.fault) o now (c.in-Err-read_wave.ensures.wave o held)

pub returns-in-Ok-read_wave-clause-file : goal.returns-in-Ok-read_wave-clause-file
returns-in-Ok-read_wave-clause-file g c = λ o h.
    let held : Holds (g.D.Depot.disk c.read_kind.new.depot) o = holds_on (g.D.Depot.disk c.args.depot.now) (g.D.Depot.disk c.read_kind.new.depot) o c.in-Ok.ensures.reads h in
    subst (Maps o) (sym c.of_wave.ensures.same) (c.in-Ok-read_wave.ensures.wave o held)

pub returns-in-Ok-read_wave-clause-tells : goal.returns-in-Ok-read_wave-clause-tells
returns-in-Ok-read_wave-clause-tells g c =
    let a = g.D.Depot.disk c.args.depot.now in
    let b = g.D.Depot.disk c.read_kind.new.depot in
    subst (IsRead a) (sym c.of_wave.ensures.same)
    (wave_read a c.in-Ok-read_wave.map (λ o h. c.in-Ok-read_wave.ensures.wave o (holds_on a b o c.in-Ok.ensures.reads h)) c.in-Ok-read_wave.ensures.sound c.of_wave.ensures.ordered)

pub read_movie-requires : goal.read_movie-requires
read_movie-requires g c = λ o h.
    let held : Holds (g.D.Depot.disk c.args.depot.now) o = holds_back (g.D.Depot.disk c.args.depot.now) (g.D.Depot.disk c.read_kind.new.depot) o c.in-Ok.ensures.reads h in
    sym (c.in-Ok.ensures.kind o held) ∙ mov_by c.in-Ok.kind (sym c.is_mov.ensures ∙ c.if-is_mov.true)

pub returns-then-is_mov-clause-file : goal.returns-then-is_mov-clause-file
returns-then-is_mov-clause-file g c = λ o h.
    c.read_movie.ensures.file o (holds_on (g.D.Depot.disk c.args.depot.now) (g.D.Depot.disk c.read_kind.new.depot) o c.in-Ok.ensures.reads h)

pub returns-then-is_mov-clause-tells : goal.returns-then-is_mov-clause-tells
returns-then-is_mov-clause-tells g c = read_back (g.D.Depot.disk c.args.depot.now) (g.D.Depot.disk c.read_kind.new.depot) c.read_movie.result c.in-Ok.ensures.reads c.read_movie.ensures.tells
