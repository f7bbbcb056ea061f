-- How names, paths and labels are written, and how lines and lists are laid out.
use Rattle.std.specs.Prelude.{ℕ, ◌*◌, Bool, true, false, ◌&&◌, ◌||◌, not, ◌==◌, nat_le, nat_eq, if◌then◌else◌, List, [], ◌∷◌, ◌++◌, map, replicate, codes}
use Rattle.std.specs.List.{list_all, list_any}
use Rattle.std.specs.Fmt.{decimal}
use Rattle.std.specs.Cmp.Lexicographic.{pointwise}
use Rattle.up_base.specs.Names.{lower_case}
use Rattle.up_base.specs.LineEnd.{line_end}
use Rattle.net_tree.specs.declared.line.NetLabel.{NetLabel}
use Rattle.net_tree.specs.declared.line.NetLabel.TheVariants.{Word, Number}

-- texts with a separator between them
abbrev pub separated : List ℕ → List (List ℕ) → List ℕ
separated separator [] = []
separated separator (t ∷ []) = t
separated separator (t ∷ u ∷ ts) = t ++ separator ++ separated separator (u ∷ ts)

-- items between parentheses
abbrev pub in_parentheses : List (List ℕ) → List ℕ
in_parentheses items = codes "(" ++ separated (codes ", ") items ++ codes ")"

-- a line at a nesting depth, each indented by four blanks
abbrev pub at_depth : ℕ → List ℕ → List ℕ
at_depth depth text = replicate (4 * depth) 32 ++ text ++ line_end

-- what may stand after a name's first character
abbrev pub is_word_part : ℕ → Bool
is_word_part c = (nat_le 65 c && nat_le c 90) || (nat_le 97 c && nat_le c 122) || (nat_le 48 c && nat_le c 57) || (c == 95)

-- a letter or an underscore, and then letters, digits and underscores
abbrev pub is_identifier : List ℕ → Bool
is_identifier [] = false
is_identifier (c ∷ cs) = not (nat_le 48 c && nat_le c 57) && list_all is_word_part (c ∷ cs)

abbrev pub is_same_text : List ℕ → List ℕ → Bool
is_same_text a b = pointwise nat_eq a b

-- The words in small letters that are written in brackets where they are names: the keywords of Visual Basic .NET, the
-- reserved words of Visual Basic 6, and the words of types of both.
abbrev pub bracketed_words : List (List ℕ)
bracketed_words =
    codes "addhandler" ∷ codes "addressof" ∷ codes "alias" ∷ codes "and" ∷ codes "andalso" ∷ codes "ansi" ∷ codes "as" ∷ codes "assembly" ∷ codes "auto"
    ∷ codes "boolean" ∷ codes "byref" ∷ codes "byte" ∷ codes "byval"
    ∷ codes "call" ∷ codes "case" ∷ codes "catch" ∷ codes "cbool" ∷ codes "cbyte" ∷ codes "cchar" ∷ codes "cdate" ∷ codes "cdbl" ∷ codes "cdec" ∷ codes "char" ∷ codes "cint" ∷ codes "class" ∷ codes "clng" ∷ codes "cobj" ∷ codes "const" ∷ codes "cshort" ∷ codes "csng" ∷ codes "cstr" ∷ codes "ctype" ∷ codes "currency"
    ∷ codes "date" ∷ codes "decimal" ∷ codes "declare" ∷ codes "default" ∷ codes "delegate" ∷ codes "dim" ∷ codes "directcast" ∷ codes "do" ∷ codes "double"
    ∷ codes "each" ∷ codes "else" ∷ codes "elseif" ∷ codes "empty" ∷ codes "end" ∷ codes "endif" ∷ codes "enum" ∷ codes "eqv" ∷ codes "erase" ∷ codes "error" ∷ codes "event" ∷ codes "exit"
    ∷ codes "false" ∷ codes "finally" ∷ codes "for" ∷ codes "friend" ∷ codes "function"
    ∷ codes "get" ∷ codes "gettype" ∷ codes "global" ∷ codes "gosub" ∷ codes "goto"
    ∷ codes "handles"
    ∷ codes "if" ∷ codes "imp" ∷ codes "implements" ∷ codes "imports" ∷ codes "in" ∷ codes "inherits" ∷ codes "integer" ∷ codes "interface" ∷ codes "is"
    ∷ codes "let" ∷ codes "lib" ∷ codes "like" ∷ codes "long" ∷ codes "loop" ∷ codes "lset"
    ∷ codes "me" ∷ codes "mod" ∷ codes "module" ∷ codes "mustinherit" ∷ codes "mustoverride" ∷ codes "mybase" ∷ codes "myclass"
    ∷ codes "namespace" ∷ codes "new" ∷ codes "next" ∷ codes "not" ∷ codes "nothing" ∷ codes "notinheritable" ∷ codes "notoverridable" ∷ codes "null"
    ∷ codes "object" ∷ codes "on" ∷ codes "option" ∷ codes "optional" ∷ codes "or" ∷ codes "orelse" ∷ codes "overloads" ∷ codes "overridable" ∷ codes "overrides"
    ∷ codes "paramarray" ∷ codes "preserve" ∷ codes "private" ∷ codes "property" ∷ codes "protected" ∷ codes "public"
    ∷ codes "raiseevent" ∷ codes "readonly" ∷ codes "redim" ∷ codes "rem" ∷ codes "removehandler" ∷ codes "resume" ∷ codes "return" ∷ codes "rset"
    ∷ codes "select" ∷ codes "set" ∷ codes "shadows" ∷ codes "shared" ∷ codes "short" ∷ codes "single" ∷ codes "static" ∷ codes "step" ∷ codes "stop" ∷ codes "string" ∷ codes "structure" ∷ codes "sub" ∷ codes "synclock"
    ∷ codes "then" ∷ codes "throw" ∷ codes "to" ∷ codes "true" ∷ codes "try" ∷ codes "type" ∷ codes "typeof"
    ∷ codes "unicode" ∷ codes "until"
    ∷ codes "variant"
    ∷ codes "wend" ∷ codes "when" ∷ codes "while" ∷ codes "with" ∷ codes "withevents" ∷ codes "writeonly"
    ∷ codes "xor"
    ∷ []

-- whether a name is one of these words, letters compared without case
unfoldable pub is_bracketed : List ℕ → Bool
is_bracketed name = list_any (is_same_text (lower_case name)) bracketed_words

-- a name, in brackets where it is a word of the language
abbrev pub name_text : List ℕ → List ℕ
name_text name = if is_bracketed name then codes "[" ++ name ++ codes "]" else name

-- whether a path begins with a name space of the run-time library
abbrev pub is_library_path : List (List ℕ) → Bool
is_library_path [] = false
is_library_path (name ∷ names) = is_same_text name (codes "System") || is_same_text name (codes "Microsoft")

-- names joined by full stops; none of a library's path is in brackets
abbrev pub path_text : List (List ℕ) → List ℕ
path_text names = separated (codes ".") (if is_library_path names then names else map name_text names)

abbrev pub is_same_path : List (List ℕ) → List (List ℕ) → Bool
is_same_path a b = pointwise is_same_text a b

-- at least one name; System.Array is a type and no path
abbrev pub is_path : List (List ℕ) → Bool
is_path [] = false
is_path (name ∷ names) = list_all is_identifier (name ∷ names) && not (is_same_path (name ∷ names) (codes "System" ∷ codes "Array" ∷ []))

abbrev pub label_text : NetLabel → List ℕ
label_text (Word name) = name_text name
label_text (Number n) = decimal n

-- a name, or a whole number
abbrev pub is_label : NetLabel → Bool
is_label (Word name) = is_identifier name
is_label (Number n) = true

-- a label that an error may be sent to: 0 is none
abbrev pub is_handler_label : NetLabel → Bool
is_handler_label (Word name) = is_identifier name
is_handler_label (Number n) = not (n == 0)
