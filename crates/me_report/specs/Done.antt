-- The line of what was done (this project's own).
use Rattle.std.specs.Prelude.{ℕ, List, codes, if◌then◌else◌}
use Rattle.me_report.specs.declared.line.Summary.{Summary}
use Rattle.me_report.specs.Lines.{count_line}

-- whether the file was changed, and how
abbrev pub done_words : Summary → List ℕ
done_words s =
    if s.changed
    then (if s.in_place then codes "done changed in-place essence " else codes "done changed rewrite essence ")
    else codes "done unchanged essence "

-- the same with the length of the sound or pictures
abbrev pub done_line : Summary → List ℕ
done_line s = count_line (done_words s) s.payload
