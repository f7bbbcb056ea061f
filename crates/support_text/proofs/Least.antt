-- The needed functions are the least set that has the used ones, and with a function those that it calls.
use Rattle.std.proofs.Common.{◌≡◌, Bool, true, false, ◌||◌, refl}
use Rattle.support_text.specs.declared.row.SupportRow.{SupportRow}
use Rattle.support_text.specs.declared.row.SupportRow.TheVariants.{PrintLine, PrintPart, CurText, PrintNum, Cur, Raise}
use Rattle.support_text.specs.Needs.{needed, calls, IsClosed, IsLeast}

or_first : (a b : Bool) → a ≡ true → a || b ≡ true
or_first true b h = refl
or_first false b h = absurd (cc h)

or_second : (a b : Bool) → b ≡ true → a || b ≡ true
or_second true b h = refl
or_second false b h = h

or_alone : (a : Bool) → a || false ≡ true → a ≡ true
or_alone true h = refl
or_alone false h = h

or_either : (a b : Bool) (C : Type 0) → (a ≡ true → C) → (b ≡ true → C) → a || b ≡ true → C
or_either true b C first second h = first refl
or_either false b C first second h = second h

used_needed : (used : SupportRow → Bool) (row : SupportRow) → used row ≡ true → needed used row ≡ true
used_needed used PrintLine h = or_first (used PrintLine) false h
used_needed used PrintPart h = or_first (used PrintPart) false h
used_needed used CurText h = or_first (used CurText) (used PrintNum || false) h
used_needed used PrintNum h = or_first (used PrintNum) false h
used_needed used Cur h = or_first (used Cur) false h
used_needed used Raise h = or_second (used Cur) (used Raise || false) (or_first (used Raise) false h)

called : (used : SupportRow → Bool) (row other : SupportRow) → needed used row ≡ true → calls row other ≡ true → needed used other ≡ true
called used PrintLine PrintLine h k = absurd (cc k)
called used PrintLine PrintPart h k = absurd (cc k)
called used PrintLine CurText h k = absurd (cc k)
called used PrintLine PrintNum h k = absurd (cc k)
called used PrintLine Cur h k = absurd (cc k)
called used PrintLine Raise h k = absurd (cc k)
called used PrintPart PrintLine h k = absurd (cc k)
called used PrintPart PrintPart h k = absurd (cc k)
called used PrintPart CurText h k = absurd (cc k)
called used PrintPart PrintNum h k = absurd (cc k)
called used PrintPart Cur h k = absurd (cc k)
called used PrintPart Raise h k = absurd (cc k)
called used CurText PrintLine h k = absurd (cc k)
called used CurText PrintPart h k = absurd (cc k)
called used CurText CurText h k = h
called used CurText PrintNum h k = absurd (cc k)
called used CurText Cur h k = absurd (cc k)
called used CurText Raise h k = absurd (cc k)
called used PrintNum PrintLine h k = absurd (cc k)
called used PrintNum PrintPart h k = absurd (cc k)
called used PrintNum CurText h k = or_second (used CurText) (used PrintNum || false) h
called used PrintNum PrintNum h k = h
called used PrintNum Cur h k = absurd (cc k)
called used PrintNum Raise h k = absurd (cc k)
called used Cur PrintLine h k = absurd (cc k)
called used Cur PrintPart h k = absurd (cc k)
called used Cur CurText h k = absurd (cc k)
called used Cur PrintNum h k = absurd (cc k)
called used Cur Cur h k = h
called used Cur Raise h k = or_first (used Cur) (used Raise || false) (or_alone (used Cur) h)
called used Raise PrintLine h k = absurd (cc k)
called used Raise PrintPart h k = absurd (cc k)
called used Raise CurText h k = absurd (cc k)
called used Raise PrintNum h k = absurd (cc k)
called used Raise Cur h k = absurd (cc k)
called used Raise Raise h k = absurd (cc k)

least_of : (used more : SupportRow → Bool) → IsClosed used more → (row : SupportRow) → needed used row ≡ true → more row ≡ true
least_of used more closed PrintLine h = closed.has_used PrintLine (or_alone (used PrintLine) h)
least_of used more closed PrintPart h = closed.has_used PrintPart (or_alone (used PrintPart) h)
least_of used more closed CurText h = or_either (used CurText) (used PrintNum || false) (more CurText ≡ true) (closed.has_used CurText) (λ k. closed.has_called PrintNum CurText (closed.has_used PrintNum (or_alone (used PrintNum) k)) refl) h
least_of used more closed PrintNum h = closed.has_used PrintNum (or_alone (used PrintNum) h)
least_of used more closed Cur h = closed.has_used Cur (or_alone (used Cur) h)
least_of used more closed Raise h = or_either (used Cur) (used Raise || false) (more Raise ≡ true) (λ k. closed.has_called Cur Raise (closed.has_used Cur k) refl) (λ k. closed.has_used Raise (or_alone (used Raise) k)) h

pub least_set : (used : SupportRow → Bool) → IsLeast used (needed used)
least_set used = record { closed = record { has_used = used_needed used; has_called = called used }; least = least_of used }
