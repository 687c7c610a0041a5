-- What stands round the pictures of an AVI file that is made (RIFF; the file is this project's own).
use Rattle.std.specs.Prelude.{ℕ, ◌+◌, ◌*◌, List, ◌++◌, codes}
use Rattle.me_generate.specs.Bytes.{chunk, padded, zeros}

-- zeros but for the kind of the stream
abbrev pub stream_header : List ℕ
stream_header = chunk (codes "strh") 56 ++ padded 56 (codes "vids")

abbrev pub stream_format : List ℕ
stream_format = chunk (codes "strf") 40 ++ zeros 40

-- one stream of pictures
abbrev pub stream : List ℕ
stream = chunk (codes "LIST") 116 ++ codes "strl" ++ stream_header ++ stream_format

abbrev pub main_header : List ℕ
main_header = chunk (codes "avih") 56 ++ zeros 56

abbrev pub headers : List ℕ
headers = chunk (codes "LIST") 192 ++ codes "hdrl" ++ main_header ++ stream

abbrev pub form : ℕ → List ℕ
form n = chunk (codes "RIFF") (224 + 32 * n) ++ codes "AVI "

abbrev pub avi_head : ℕ → List ℕ
avi_head n = form n ++ headers ++ chunk (codes "LIST") (4 + 16 * n) ++ codes "movi"

abbrev pub avi_middle : ℕ → List ℕ
avi_middle n = chunk (codes "idx1") (16 * n)
