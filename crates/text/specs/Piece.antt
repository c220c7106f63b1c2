-- The pieces of a line of text, from a place on (01, "The listing program"). Each takes the byte that ends it. All are total: past the
-- end of the text stands a newline, so a last line without its newline is a line.
use Rattle.std.specs.Prelude.{ℕ, zero, suc, ◌+◌, ◌-◌, ◌*◌, List, length, get_or, Option, Some, None}
use Rattle.base.specs.Choice.{if_less, if_eq, bind}
use Rattle.text.specs.declared.Field.{Field}

abbrev pub tab : ℕ
tab = 9

abbrev pub newline : ℕ
newline = 10

unfoldable pub peek_at : List ℕ → ℕ → ℕ
peek_at s at = if_less at (length s) (get_or s at 0) newline

-- the next place, or the end
unfoldable pub past_at : List ℕ → ℕ → ℕ
past_at s at = if_less at (length s) (at + 1) at

-- k of what was read, or z
unfoldable pub on_read : {A B : Type 0} → Option B → A → (B → A) → A
on_read (Some x) z k = k x
on_read None z k = z

-- a piece's value, and the place past it
abbrev pub read : ℕ → ℕ → Option (Field ℕ)
read value next = Some (record { value = value; next = next })

-- what a hex digit of either case stands for
unfoldable pub hex_digit : ℕ → Option ℕ
hex_digit b =
    if_less b 48 None
    (if_less b 58 (Some (b - 48))
    (if_less b 65 None
    (if_less b 71 (Some (b - 55))
    (if_less b 97 None
    (if_less b 103 (Some (b - 87))
    None)))))

-- the byte that "two hex digits" spell
unfoldable pub hex_at : List ℕ → ℕ → Option ℕ
hex_at s at =
    on_read (hex_digit (peek_at s at)) None (λ h.
    on_read (hex_digit (peek_at s (past_at s at))) None (λ l.
    Some (h * 16 + l)))

-- a line's letter and the first tab: "fields parted by tabs". The place past them
unfoldable pub head_at : List ℕ → ℕ → ℕ → Option ℕ
head_at s at letter =
    bind (past_at s at) (λ i.
    if_eq (peek_at s at) letter (if_eq (peek_at s i) tab (Some (past_at s i)) None) None)

-- "Numbers are decimal, below 2^64.": one digit more, n being read so far, or the byte that ends the number. `rest` reads on.
unfoldable pub number_step : List ℕ → ℕ → ℕ → ℕ → (ℕ → ℕ → Option (Field ℕ)) → Option (Field ℕ)
number_step s stop i n rest =
    bind (peek_at s i) (λ b.
    bind (past_at s i) (λ j.
    if_eq b stop (read n j)
    (on_read (hex_digit b) None (λ d.
    if_less 9 d None
    (if_less 18446744073709551615 (n * 10 + d) None
    (rest j (n * 10 + d)))))))

-- at most `left` bytes more, the ending one among them
unfoldable pub number_from : List ℕ → ℕ → ℕ → ℕ → ℕ → Option (Field ℕ)
number_from s stop zero i n = None
number_from s stop (suc left) i n = number_step s stop i n (number_from s stop left)

-- one to twenty digits, and the byte stop
unfoldable pub number_at : List ℕ → ℕ → ℕ → Option (Field ℕ)
number_at s at stop = if_eq (peek_at s at) stop None (number_from s stop 21 at 0)

-- "two hex digits", and the byte stop
unfoldable pub byte_at : List ℕ → ℕ → ℕ → Option (Field ℕ)
byte_at s at stop =
    on_read (hex_at s at) None (λ v.
    bind (past_at s (past_at s at)) (λ i.
    if_eq (peek_at s i) stop (read v (past_at s i)) None))

-- one byte more in hex, n being read so far, or the line's end. `rest` reads on.
unfoldable pub run_step : List ℕ → ℕ → ℕ → (ℕ → ℕ → Option (Field ℕ)) → Option (Field ℕ)
run_step s i n rest =
    bind (past_at s i) (λ j.
    if_eq (peek_at s i) newline (read n j)
    (on_read (hex_at s i) None (λ v.
    rest (past_at s j) (n + 1))))

-- fewer than `left` bytes more
unfoldable pub run_from : List ℕ → ℕ → ℕ → ℕ → Option (Field ℕ)
run_from s zero i n = None
run_from s (suc left) i n = run_step s i n (run_from s left)

-- "1 to a page of hex bytes", and the line's end: how many
unfoldable pub run_at : List ℕ → ℕ → ℕ → Option (Field ℕ)
run_at s at size = if_eq (peek_at s at) newline None (run_from s (size + 1) at 0)
