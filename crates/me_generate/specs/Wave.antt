-- What stands before the sound of a WAVE file that is made (chunks by RIFF; `bext` by EBU Tech 3285; the file is this project's own).
use Rattle.std.specs.Prelude.{ℕ, ◌+◌, ◌*◌, List, ◌++◌, decimal, codes}
use Rattle.me_bytes.specs.Bytes.{le_bytes}
use Rattle.me_generate.specs.Bytes.{chunk, padded, zeros}

-- the word `Reel` and the number
abbrev pub description : ℕ → List ℕ
description n = padded 256 (codes "Reel " ++ decimal n)

-- `bext` with an originator, up to its reference
abbrev pub names : ℕ → List ℕ
names n = chunk (codes "bext") 631 ++ description n ++ padded 32 (codes "Archive") ++ zeros 32

-- its date, time, time reference and version 1, and zeros
abbrev pub stamps : List ℕ
stamps = codes "2024-01-3112:00:00" ++ le_bytes 8 0 ++ le_bytes 2 1 ++ zeros 254

-- and its coding history of 29 bytes, with the pad of the chunk
abbrev pub bext : ℕ → List ℕ
bext n = names n ++ stamps ++ codes "A=PCM,F=48000,W=24,M=stereo\r\n\0"

abbrev pub form : ℕ → List ℕ
form n = chunk (codes "RIFF") (1024 + 288000 * n) ++ codes "WAVE" ++ bext n

-- PCM of two channels at 48 kHz
abbrev pub rate : List ℕ
rate = chunk (codes "fmt ") 16 ++ le_bytes 2 1 ++ le_bytes 2 2 ++ le_bytes 4 48000

-- 24 bits a sample: 6 bytes a block, 288,000 a second
abbrev pub format : List ℕ
format = rate ++ le_bytes 4 288000 ++ le_bytes 2 6 ++ le_bytes 2 24

-- a title with its zero and its pad
abbrev pub title : List ℕ
title = chunk (codes "LIST") 18 ++ codes "INFO" ++ chunk (codes "INAM") 5 ++ codes "Reel\0\0"

-- padding up to the sound
abbrev pub padding : List ℕ
padding = chunk (codes "JUNK") 296 ++ zeros 296

abbrev pub others : List ℕ
others = chunk (codes "iXML") 9 ++ codes "<BWFXML/>\0" ++ title ++ padding

abbrev pub wave_head : ℕ → List ℕ
wave_head n = form n ++ format ++ others ++ chunk (codes "data") (288000 * n)
