-- What every message that parses has: where it ends, what a run's numbers are, and where its strings stand.
use mathlib.Core.Path.{◌≡◌, refl}
use mathlib.Core.List.{List}
use Prim.Native.Nat.{ℕ, ◌+◌, ◌^◌, ◌≤◌, ◌<◌}
use native.Mathlib.Omega.{arith}
use lib.ListN.{length}
use Rattle.meaning.specs.declared.Geometry.{Geometry}
use Rattle.meaning.specs.declared.Place.{Place}
use Rattle.meaning.specs.declared.Message.{Message}
use Rattle.meaning.specs.declared.Message.TheVariants.{Create, Remove, Truncate, Write, Wstat}
use Rattle.meaning.specs.declared.Parsed.{Parsed}
use Rattle.meaning.specs.declared.Parsed.TheVariants.{Malformed, End, Found}
use Rattle.base.specs.Member.{In}
use Rattle.base.proofs.Choices.{all_true, all_less, all_eq, all_bind}
use Rattle.meaning.specs.Message.{Page, u16, u32, place_at, past, well_formed, create_at, remove_at, truncate_at, write_at, wstat_at, typed, parse}
use Rattle.meaning.specs.Log.{LogBlock, embedded_limit, log_page, log_of}
use Rattle.replayed.proofs.Keeps.{Each, Well, log_all}

-- Malformed: "count 0; offset + count above 4,294,967,295"
abbrev pub Good : Message → Type 0
Good (Create parent perm path mtime cvers name uid gid) = Unit {0}
Good (Remove path muid mtime) = Unit {0}
Good (Truncate path mtime cvers muid) = Unit {0}
Good (Write run mtime muid cvers) = (0 < run.count) × (run.offset + run.count < 2 ^ 32)
Good (Wstat path name uid gid muid perm mtime) = Unit {0}

-- Q of each string of a message
abbrev pub Strings : (Place → Type 0) → Message → Type 0
Strings Q (Create parent perm path mtime cvers name uid gid) = Q name × Q uid × Q gid
Strings Q (Remove path muid mtime) = Q muid
Strings Q (Truncate path mtime cvers muid) = Q muid
Strings Q (Write run mtime muid cvers) = Q muid
Strings Q (Wstat path name uid gid muid perm mtime) = Q name × Q uid × Q gid × Q muid

-- a string that stands whole in a page
pub record InPage (page : Page) (p : Place) : Type 0 where
  pub from : ℕ
  pub place : p ≡ place_at page from
  pub whole : past page.bytes from ≤ length page.bytes

pub record Sound (page : Page) (at : ℕ) (m : Message) (next : ℕ) : Type 0 where
  pub grows : at < next
  pub within : next ≤ length page.bytes
  pub good : Good m
  pub strings : Strings (InPage page) m

past_grows : (b : List ℕ) (k : ℕ) → k ≤ past b k
unfolding past
past_grows b k = omega arith

-- a message that ends at `end`
module _ (limit : ℕ) (g : Geometry) (page : Page) (at end : ℕ) (grows : at < end) (within : end ≤ length page.bytes) where
  abbrev b : List ℕ
  b = page.bytes

  abbrev W : Parsed → Type 0
  W = Well (Sound page at)

  string_at : (k : ℕ) → past b k ≤ end → InPage page (place_at page k)
  string_at k le = record { from = k; place = refl; whole = omega arith }

  create_sound : (path p : ℕ) → W (create_at page path p end)
  unfolding create_at well_formed
  create_sound path p = all_bind W _ _ (all_bind W _ _ (all_bind W _ _
      (all_eq W _ _ _ _
      (λ (e : past b (past b (past b (p + 16))) ≡ end). all_eq W _ _ _ _ (λ z. tt) (λ z. all_true W _ _ _ (λ t. record {
        grows = grows;
        within = within;
        good = tt;
        strings = (
          string_at (p + 16) (omega (arith, past_grows b (past b (p + 16)), past_grows b (past b (past b (p + 16))))),
          string_at (past b (p + 16)) (omega (arith, past_grows b (past b (past b (p + 16))))),
          string_at (past b (past b (p + 16))) (omega arith),
        );
      }) (λ t. tt)))
      (λ e. tt))))

  remove_sound : (path p : ℕ) → W (remove_at page path p end)
  unfolding remove_at
  remove_sound path p = all_bind W _ _ (all_eq W _ _ _ _
      (λ (e : past b (p + 4) ≡ end). record { grows = grows; within = within; good = tt; strings = string_at (p + 4) (omega arith) }) (λ e. tt))

  truncate_sound : (path p : ℕ) → W (truncate_at page path p end)
  unfolding truncate_at
  truncate_sound path p = all_bind W _ _ (all_eq W _ _ _ _
      (λ (e : past b (p + 8) ≡ end). record { grows = grows; within = within; good = tt; strings = string_at (p + 8) (omega arith) }) (λ e. tt))

  write_sound : (path p : ℕ) → W (write_at limit g page path p end)
  unfolding write_at well_formed
  write_sound path p = all_bind W _ _ (all_bind W _ _ (all_bind W _ _ (all_bind W _ _ (all_bind W _ _
      (all_less W _ _ _ _ (λ h. tt) (λ (h : past b (p + 14) + 4 ≤ end).
      all_eq W _ _ _ _ (λ z. tt) (λ (z : u16 b (p + 4) ≡ 0 → ⊥).
      all_less W _ _ _ _ (λ o. tt) (λ (o : u32 b p + u16 b (p + 4) ≤ 4294967295).
      all_true W _ _ _ (λ t. record { grows = grows; within = within; good = (omega arith, omega arith); strings = string_at (p + 14) (omega arith) })
      (λ t. tt)))))))))

  wstat_sound : (path p : ℕ) → W (wstat_at page path p end)
  unfolding wstat_at well_formed
  wstat_sound path p =
      let perm : ℕ = past b p in
      let gid : ℕ = past b (perm + 4) in
      let mtime : ℕ = past b gid in
      all_bind W _ _ (all_bind W _ _ (all_bind W _ _ (all_bind W _ _ (all_bind W _ _
      (all_eq W _ _ _ _ (λ (e : past b (mtime + 4) ≡ end). all_true W _ _ _ (λ t. record {
        grows = grows;
        within = within;
        good = tt;
        strings = (
          string_at p (omega (arith, past_grows b (perm + 4), past_grows b gid, past_grows b (mtime + 4))),
          string_at (perm + 4) (omega (arith, past_grows b gid, past_grows b (mtime + 4))),
          string_at gid (omega (arith, past_grows b (mtime + 4))),
          string_at (mtime + 4) (omega arith),
        );
      }) (λ t. tt)) (λ e. tt))))))

  typed_sound : W (typed limit g page at end)
  unfolding typed
  typed_sound = all_bind W _ _ (all_bind W _ _
      (all_eq W _ _ _ _ (λ e. create_sound _ (at + 7))
      (λ e. all_eq W _ _ _ _ (λ e. remove_sound _ (at + 7))
      (λ e. all_eq W _ _ _ _ (λ e. truncate_sound _ (at + 7))
      (λ e. all_eq W _ _ _ _ (λ e. write_sound _ (at + 7))
      (λ e. all_eq W _ _ _ _ (λ e. wstat_sound _ (at + 7))
      (λ e. tt)))))))

pub parse_sound : (limit : ℕ) (g : Geometry) (page : Page) (at : ℕ) → Well (Sound page at) (parse limit g page at)
unfolding parse
parse_sound limit g page at =
    let W : Parsed → Type 0 = Well (Sound page at) in
    all_less W _ _ _ _
    (λ h. all_eq W _ _ _ _ (λ e. tt) (λ e. all_bind W _ _
    (all_less W _ _ _ _ (λ s. tt) (λ s. all_less W _ _ _ _ (λ o. tt)
    (λ (o : at + 3 + u16 page.bytes (at + 1) ≤ length page.bytes).
    typed_sound limit g page at (at + 3 + u16 page.bytes (at + 1)) (omega arith) o)))))
    (λ h. tt)

pub well_map : (G H : Message → ℕ → Type 0) (x : Parsed) → ((m : Message) (next : ℕ) → G m next → H m next) → Well G x → Well H x
well_map G H Malformed f w = tt
well_map G H End f w = tt
well_map G H (Found m next) f w = f m next w

-- what follows of every message that parses, every message of the log has
pub log_has : (G : Message → Type 0) (g : Geometry) (ls : List LogBlock)
    → ((l : LogBlock) → In l ls → (j : ℕ) → j < g.pages → (at : ℕ) (m : Message) (next : ℕ) → Sound (log_page g l j) at m next → G m)
    → Each G (log_of g ls).entries
log_has G g ls f = log_all G g ls (λ l i j k h.
    well_map (Sound (log_page g l j) k) (λ m next. G m) (parse (embedded_limit g) g (log_page g l j) k) (f l i j h k)
    (parse_sound (embedded_limit g) g (log_page g l j) k))

pub log_good : (g : Geometry) (ls : List LogBlock) → Each Good (log_of g ls).entries
log_good g ls = log_has Good g ls (λ l i j h at m next s. s.good)
