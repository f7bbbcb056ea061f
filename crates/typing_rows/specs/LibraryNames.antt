-- The names of Visual Basic's own libraries: a word that finds no declaration and is one of them is no undeclared variable.
use Rattle.std.specs.Prelude.{ℕ, nat_eq, Bool, ◌||◌, codes, List, [], ◌∷◌}
use Rattle.std.specs.List.{list_any, starts_with}
use Rattle.std.specs.Cmp.Lexicographic.{pointwise}
use Rattle.up_base.specs.Names.{lower_case}

-- the names in small letters, by their first letters
unfoldable pub names_a_to_c : List (List ℕ)
names_a_to_c =
    codes "abs" ∷ codes "app" ∷ codes "array" ∷ codes "asc" ∷ codes "ascb" ∷ codes "ascw" ∷ codes "atn" ∷ codes "beep"
    ∷ codes "callbyname" ∷ codes "cbool" ∷ codes "cbyte" ∷ codes "ccur" ∷ codes "cdate" ∷ codes "cdbl" ∷ codes "cdec" ∷ codes "chdir"
    ∷ codes "chdrive" ∷ codes "choose" ∷ codes "chr" ∷ codes "chrb" ∷ codes "chrw" ∷ codes "cint" ∷ codes "clipboard" ∷ codes "clng"
    ∷ codes "command" ∷ codes "cos" ∷ codes "createobject" ∷ codes "csng" ∷ codes "cstr" ∷ codes "curdir" ∷ codes "cvar" ∷ codes "cvdate"
    ∷ codes "cverr"
    ∷ []

unfoldable pub names_d_to_i : List (List ℕ)
names_d_to_i =
    codes "dateadd" ∷ codes "datediff" ∷ codes "datepart" ∷ codes "dateserial" ∷ codes "datevalue" ∷ codes "day" ∷ codes "ddb" ∷ codes "deletesetting"
    ∷ codes "dir" ∷ codes "doevents" ∷ codes "environ" ∷ codes "eof" ∷ codes "erl" ∷ codes "error" ∷ codes "exp" ∷ codes "fileattr"
    ∷ codes "filecopy" ∷ codes "filedatetime" ∷ codes "filelen" ∷ codes "filter" ∷ codes "fix" ∷ codes "format" ∷ codes "formatcurrency" ∷ codes "formatdatetime"
    ∷ codes "formatnumber" ∷ codes "formatpercent" ∷ codes "forms" ∷ codes "freefile" ∷ codes "fv" ∷ codes "getallsettings" ∷ codes "getattr" ∷ codes "getobject"
    ∷ codes "getsetting" ∷ codes "hex" ∷ codes "hour" ∷ codes "iif" ∷ codes "imestatus" ∷ codes "inputb" ∷ codes "inputbox" ∷ codes "instr"
    ∷ codes "instrb" ∷ codes "instrrev" ∷ codes "int" ∷ codes "ipmt" ∷ codes "irr" ∷ codes "isarray" ∷ codes "isdate" ∷ codes "isempty"
    ∷ codes "iserror" ∷ codes "ismissing" ∷ codes "isnull" ∷ codes "isnumeric" ∷ codes "isobject"
    ∷ []

unfoldable pub names_j_to_p : List (List ℕ)
names_j_to_p =
    codes "join" ∷ codes "kill" ∷ codes "lbound" ∷ codes "lcase" ∷ codes "left" ∷ codes "leftb" ∷ codes "len" ∷ codes "lenb"
    ∷ codes "load" ∷ codes "loadpicture" ∷ codes "loadresdata" ∷ codes "loadrespicture" ∷ codes "loadresstring" ∷ codes "loc" ∷ codes "lof" ∷ codes "log"
    ∷ codes "ltrim" ∷ codes "mid" ∷ codes "midb" ∷ codes "minute" ∷ codes "mirr" ∷ codes "mkdir" ∷ codes "month" ∷ codes "monthname"
    ∷ codes "msgbox" ∷ codes "now" ∷ codes "nper" ∷ codes "npv" ∷ codes "objptr" ∷ codes "oct" ∷ codes "partition" ∷ codes "pmt"
    ∷ codes "ppmt" ∷ codes "printer" ∷ codes "printers" ∷ codes "pv"
    ∷ []

unfoldable pub names_q_to_y : List (List ℕ)
names_q_to_y =
    codes "qbcolor" ∷ codes "randomize" ∷ codes "rate" ∷ codes "replace" ∷ codes "reset" ∷ codes "rgb" ∷ codes "right" ∷ codes "rightb"
    ∷ codes "rmdir" ∷ codes "rnd" ∷ codes "round" ∷ codes "rtrim" ∷ codes "savepicture" ∷ codes "savesetting" ∷ codes "screen" ∷ codes "second"
    ∷ codes "seek" ∷ codes "sendkeys" ∷ codes "setattr" ∷ codes "sgn" ∷ codes "shell" ∷ codes "sin" ∷ codes "sln" ∷ codes "space"
    ∷ codes "spc" ∷ codes "split" ∷ codes "sqr" ∷ codes "str" ∷ codes "strcomp" ∷ codes "strconv" ∷ codes "strptr" ∷ codes "strreverse"
    ∷ codes "switch" ∷ codes "syd" ∷ codes "tab" ∷ codes "tan" ∷ codes "time" ∷ codes "timer" ∷ codes "timeserial" ∷ codes "timevalue"
    ∷ codes "trim" ∷ codes "typename" ∷ codes "ubound" ∷ codes "ucase" ∷ codes "unload" ∷ codes "val" ∷ codes "varptr" ∷ codes "vartype"
    ∷ codes "vb" ∷ codes "vba" ∷ codes "weekday" ∷ codes "weekdayname" ∷ codes "year"
    ∷ []

abbrev pub is_among : List ℕ → List (List ℕ) → Bool
is_among word names = list_any (pointwise nat_eq word) names

-- whether a word in small letters is such a name; all that begin with vb are
abbrev pub is_library_word : List ℕ → Bool
is_library_word word =
    starts_with nat_eq word (codes "vb")
    || is_among word names_a_to_c
    || is_among word names_d_to_i
    || is_among word names_j_to_p
    || is_among word names_q_to_y

-- whether a name is one of these, letters compared without case
unfoldable pub is_library_name : List ℕ → Bool
is_library_name name = is_library_word (lower_case name)
