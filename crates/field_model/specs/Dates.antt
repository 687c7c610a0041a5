-- Dates and times as texts: what has their form, which dates exist, and how they are spelled.
use Rattle.std.specs.Prelude.{ℕ, ◌%◌, List, [], ◌∷◌, ◌++◌, take, drop, Bool, true, false, not, ◌&&◌, ◌||◌, ◌==◌, nat_le, if◌then◌else◌, codes}
use Rattle.std.specs.List.{list_any}
use Rattle.std.specs.Char.{is_ascii_digit}
use Rattle.std.specs.Str.Parse.{digits_value}

-- the separators of dates and times: `-`, `_`, `:`, the blank and `.` (EBU Tech 3285, OriginationDate)
abbrev pub is_separator : ℕ → Bool
is_separator x = list_any (λ s. x == s) (codes "-_: .")

-- whether a byte is what a letter of a form stands for: d for a digit, s for a separator, another one for itself
abbrev pub fits : ℕ → ℕ → Bool
fits letter x = if letter == 100 then is_ascii_digit x else (if letter == 115 then is_separator x else x == letter)

-- whether a text has a form, letter by letter
abbrev pub has_form : List ℕ → List ℕ → Bool
has_form [] [] = true
has_form [] (x ∷ xs) = false
has_form (f ∷ fs) [] = false
has_form (f ∷ fs) (x ∷ xs) = fits f x && has_form fs xs

-- the number that some of the digits of a text write: n of them from a place on
abbrev pub number_at : ℕ → ℕ → List ℕ → ℕ
number_at at n text = digits_value 10 (take n (drop at text))

-- the Gregorian calendar, extended to the year 0 (ISO 8601): every fourth year is a leap year, but of the centuries
-- only every fourth
abbrev pub is_leap : ℕ → Bool
is_leap year = (year % 4 == 0) && (not (year % 100 == 0) || (year % 400 == 0))

-- the days of a month of a year
abbrev pub month_days : ℕ → ℕ → ℕ
month_days year month =
    if month == 2 then (if is_leap year then 29 else 28)
    else (if (month == 4) || (month == 6) || (month == 9) || (month == 11) then 30 else 31)

-- whether a month exists
abbrev pub month_exists : ℕ → Bool
month_exists month = nat_le 1 month && nat_le month 12

-- whether a year, month and day are a date
abbrev pub date_exists : ℕ → ℕ → ℕ → Bool
date_exists year month day = month_exists month && (nat_le 1 day && nat_le day (month_days year month))

-- a date: four digits, two and two with separators between them, and the date exists
abbrev pub is_date : List ℕ → Bool
is_date text = has_form (codes "ddddsddsdd") text && date_exists (number_at 0 4 text) (number_at 5 2 text) (number_at 8 2 text)

-- a time: two digits thrice with separators between them, up to 23, 59 and 59
abbrev pub is_time : List ℕ → Bool
is_time text = has_form (codes "ddsddsdd") text && (nat_le (number_at 0 2 text) 23 && (nat_le (number_at 3 2 text) 59 && nat_le (number_at 6 2 text) 59))

-- how they are spelled: yyyy-mm-dd and hh:mm:ss
abbrev pub spelled_date : List ℕ → List ℕ
spelled_date text = take 4 text ++ (codes "-" ++ (take 2 (drop 5 text) ++ (codes "-" ++ take 2 (drop 8 text))))

-- a time with the separators that are written
abbrev pub spelled_time : List ℕ → List ℕ
spelled_time text = take 2 text ++ (codes ":" ++ (take 2 (drop 3 text) ++ (codes ":" ++ take 2 (drop 6 text))))

-- a month, yyyy-mm, and a day, yyyy-mm-dd
abbrev pub is_month : List ℕ → Bool
is_month text = has_form (codes "dddd-dd") text && month_exists (number_at 5 2 text)

-- whether a text is a year, a month and a day
abbrev pub is_day : List ℕ → Bool
is_day text = has_form (codes "dddd-dd-dd") text && date_exists (number_at 0 4 text) (number_at 5 2 text) (number_at 8 2 text)

-- a date of INFO: yyyy, yyyy-mm or yyyy-mm-dd, with a month or a date that exists
abbrev pub is_info_date : List ℕ → Bool
is_info_date text = has_form (codes "dddd") text || (is_month text || is_day text)
