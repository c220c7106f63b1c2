-- The tree as a list of files by ascending path, and what is always so of it.
use Rattle.std.specs.Prelude.{ℕ, ◌+◌, ◌-◌, ◌≤◌, ◌<◌, ◌≡◌, List, [], ◌∷◌, map, length, get_or, set, take, Result, Ok, Err}
use Rattle.base.specs.Member.{In}
use Rattle.meaning.specs.declared.Record.{Record}
use Rattle.tree.specs.declared.Tree.{Tree}
use Rattle.tree.specs.Shift.{opened, closed}

-- ---- the files

abbrev pub no_record : Record
no_record = record {
  path = 0;
  parent = 0;
  perm = 0;
  length = 0;
  cvers = 0;
  mtime = 0;
  name = record { at = 0; len = 0 };
  uid = record { at = 0; len = 0 };
  gid = record { at = 0; len = 0 };
  muid = record { at = 0; len = 0 };
}

abbrev pub record_at : Tree → ℕ → Record
record_at t s = get_or t.records s no_record

-- the slots of the live records
abbrev pub live : Tree → List ℕ
live t = take t.count t.slots

abbrev pub files : Tree → List Record
files t = map (record_at t) (live t)

abbrev pub path_of : Record → ℕ
path_of f = f.path

-- ---- what is always so

-- rising, from lo on
abbrev pub Rise : ℕ → List ℕ → Type 0
Rise lo [] = Unit
Rise lo (p ∷ ps) = (lo ≤ p) × Rise (p + 1) ps

-- each is a slot, and no two are the same
abbrev pub Slots : List ℕ → Type 0
Slots [] = Unit
Slots (s ∷ ss) = (s < 256) × ((In s ss → ⊥) × Slots ss)

pub record Kept (t : Tree) : Type 0 where
  pub few : t.count ≤ 256
  pub records_len : length t.records ≡ 256
  pub keys_len : length t.keys ≡ 256
  pub slots_len : length t.slots ≡ 256
  pub keyed : take t.count t.keys ≡ map path_of (files t)
  pub rise : Rise 0 (map path_of (files t))
  pub slots : Slots t.slots

-- slot a stands at a, below k
pub record Numbered (ss : List ℕ) (k : ℕ) : Type 0 where
  pub len : length ss ≡ 256
  pub own : (a : ℕ) → a < k → get_or ss a 0 ≡ a

-- ---- the search

abbrev pub Rising : List ℕ → ℕ → Type 0
Rising ks n = (a b : ℕ) → a < b → b < n → get_or ks a 0 < get_or ks b 0

abbrev pub Lower : List ℕ → ℕ → ℕ → Type 0
Lower ks p i = (a : ℕ) → a < i → get_or ks a 0 < p

-- what a search of the first n keys found
abbrev pub Stands : List ℕ → ℕ → ℕ → Result ℕ ℕ → Type 0
Stands ks n p (Ok i) = (i < n) × ((get_or ks i 0 ≡ p) × Lower ks p i)
Stands ks n p (Err i) = (i ≤ n) × (Lower ks p i × ((a : ℕ) → i ≤ a → a < n → p < get_or ks a 0))

-- ---- the three changes, as their owner makes them a field at a time

abbrev pub put : ℕ → Record → Tree → Tree
put s q t = record { records = set t.records s q; keys = t.keys; slots = t.slots; count = t.count }

-- q at position i, in the first free slot
abbrev pub inserted : ℕ → Record → Tree → Tree
inserted i q t = record {
  records = set t.records (get_or t.slots t.count 0) q;
  keys = opened t.count i q.path t.keys;
  slots = opened t.count i (get_or t.slots t.count 0) t.slots;
  count = t.count + 1;
}

abbrev pub removed : ℕ → Tree → Tree
removed i t = record {
  records = t.records;
  keys = closed t.count i t.keys;
  slots = closed t.count i t.slots;
  count = t.count - 1;
}
