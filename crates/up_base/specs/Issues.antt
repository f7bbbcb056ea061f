-- The order of issues: by file, then by line, then by rule.
use Rattle.std.specs.Prelude.{Bool, true, ◌&&◌, ◌||◌, nat_lt, nat_eq, List, [], ◌∷◌}
use Rattle.up_base.specs.declared.issue.Issue.{Issue}

-- whether an issue stands before another
abbrev pub issue_before : Issue → Issue → Bool
issue_before a b =
    nat_lt a.place.file b.place.file
    || (nat_eq a.place.file b.place.file
    && (nat_lt a.place.line b.place.line || (nat_eq a.place.line b.place.line && nat_lt a.rule b.rule)))

-- whether issues are in strict ascending order: each stands before the next
abbrev pub are_ascending : List Issue → Bool
are_ascending [] = true
are_ascending (a ∷ []) = true
are_ascending (a ∷ b ∷ issues) = issue_before a b && are_ascending (b ∷ issues)

-- whether the last of the issues, where there is one, stands before another issue
abbrev pub is_last_before : List Issue → Issue → Bool
is_last_before [] item = true
is_last_before (a ∷ []) item = issue_before a item
is_last_before (a ∷ b ∷ issues) item = is_last_before (b ∷ issues) item
