-- What an applied message was found to meet.
use mathlib.Core.Path.{◌≡◌, refl, sym}
use mathlib.Core.Logic.{◌≢◌}
use mathlib.Core.Bool.{Bool, true, false, xor}
use mathlib.Core.Option.{none, some}
use mathlib.Core.List.{List}
use lib.Dec.{T}
use Rattle.meaning.specs.declared.Record.{Record}
use Rattle.meaning.specs.declared.Message.{Message}
use Rattle.meaning.specs.declared.Message.TheVariants.{Create, Remove, Truncate, Write, Wstat}
use Rattle.meaning.specs.declared.Verdict.{Verdict}
use Rattle.base.proofs.Tests.{T-yes, not_both, zero_one}
use Rattle.base.proofs.Choices.{all_true, all_eq, all_some}
use Rattle.meaning.specs.Replay.{is_dir, bit31, look, is_empty, given, judge, applies}

-- "c: parent must exist and be a directory, newpath must not exist." "r: must exist, not be the root, be empty if a directory."
-- "t: must exist, not be a directory." "w: must exist, not be a directory, cvers equal." "W: must exist. .. Ignored whole if it would
-- change bit 31 of perm, or if it gives the root a name that is not empty."
abbrev pub Meets : Message → List Record → Type 0
Meets (Create parent perm path mtime cvers name uid gid) fs =
    (d : Record) × (look parent fs ≡ some d) × T (is_dir d) × (look path fs ≡ none)
Meets (Remove path muid mtime) fs =
    (f : Record) × (look path fs ≡ some f) × (path ≢ 0) × (T (is_dir f) → T (is_empty path fs))
Meets (Truncate path mtime cvers muid) fs =
    (f : Record) × (look path fs ≡ some f) × (T (is_dir f) → ⊥)
Meets (Write run mtime muid cvers) fs =
    (f : Record) × (look run.path fs ≡ some f) × (T (is_dir f) → ⊥) × (cvers ≡ f.cvers)
Meets (Wstat path name uid gid muid perm mtime) fs =
    (f : Record) × (look path fs ≡ some f) × (bit31 (given perm f.perm) ≡ is_dir f) × (path ≡ 0 → name.len ≡ 0)

xor_same : (a b : Bool) → xor a b ≡ false → b ≡ a
unfolding xor
xor_same true true t = refl
xor_same true false t = sym t
xor_same false true t = t
xor_same false false t = refl

never : {A : Type 0} → false ≡ true → A
never e = absurd (zero_one (cc))

pub judged : (m : Message) (fs : List Record) → applies (judge m fs) ≡ true → Meets m fs
unfolding judge applies
judged (Create parent perm path mtime cvers name uid gid) fs =
    let P : Verdict → Type 0 = λ v. applies v ≡ true → Meets (Create parent perm path mtime cvers name uid gid) fs in
    all_some P _ _ _ (λ n. never) (λ d e. all_true P _ _ _ (λ b. all_some P _ _ _ (λ n a. (d, e, T-yes (is_dir d) b, n)) (λ f s. never)) (λ b. never))
judged (Remove path muid mtime) fs =
    let P : Verdict → Type 0 = λ v. applies v ≡ true → Meets (Remove path muid mtime) fs in
    all_some P _ _ _ (λ n. never) (λ f e. all_eq P _ _ _ _ (λ z. never) (λ z. all_true P _ _ _
    (λ b. all_true P _ _ _ (λ t a. (f, e, z, λ u. T-yes (is_empty path fs) t)) (λ t. never))
    (λ b a. (f, e, z, λ u. absurd (not_both (is_dir f) b u)))))
judged (Truncate path mtime cvers muid) fs =
    let P : Verdict → Type 0 = λ v. applies v ≡ true → Meets (Truncate path mtime cvers muid) fs in
    all_some P _ _ _ (λ n. never) (λ f e. all_true P _ _ _ (λ b. never) (λ b a. (f, e, not_both (is_dir f) b)))
judged (Write run mtime muid cvers) fs =
    let P : Verdict → Type 0 = λ v. applies v ≡ true → Meets (Write run mtime muid cvers) fs in
    all_some P _ _ _ (λ n. never) (λ f e. all_true P _ _ _ (λ b. never) (λ b. all_eq P _ _ _ _ (λ c a. (f, e, not_both (is_dir f) b, c)) (λ c. never)))
judged (Wstat path name uid gid muid perm mtime) fs =
    let P : Verdict → Type 0 = λ v. applies v ≡ true → Meets (Wstat path name uid gid muid perm mtime) fs in
    all_some P _ _ _ (λ n. never) (λ f e. all_true P _ _ _ (λ b. never) (λ b. all_eq P _ _ _ _
    (λ z. all_eq P _ _ _ _ (λ n a. (f, e, xor_same (is_dir f) _ b, λ _. n)) (λ n. never))
    (λ z a. (f, e, xor_same (is_dir f) _ b, λ q. absurd (z q)))))
