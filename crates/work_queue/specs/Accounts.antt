-- What the passes of a queue have put and got, and what the queue holds.
use Rattle.std.specs.Prelude.{◌≡◌, ℕ, ◌+◌, ◌-◌, List, [], ◌∷◌, ◌++◌, length, IsPermutation}
use mathlib.Core.Option.{some}
use lib.ListN.{get_elem?}
use Rattle.work_queue.specs.declared.account.Account.{Account}

-- an account with these shares and these jobs
abbrev pub account : {J : Type 0} → ℕ → List J → List J → Account J
account shares put got = record { shares = shares; put = put; got = got }

-- how many shares there are in all
abbrev pub ALL_SHARES : ℕ
ALL_SHARES = 1024

-- the account of the first pass
abbrev pub whole : {J : Type 0} → Account J
whole = account ALL_SHARES [] []

-- the account of a pass that was split off
abbrev pub one_share : {J : Type 0} → Account J
one_share = account 1 [] []

-- the account of a pass that was joined into another
abbrev pub spent : {J : Type 0} → Account J
spent = account 0 [] []

-- what a split leaves
abbrev pub one_share_less : {J : Type 0} → Account J → Account J
one_share_less old = account (old.shares - 1) old.put old.got

-- two accounts in one
abbrev pub joined : {J : Type 0} → Account J → Account J → Account J
joined old other = account (old.shares + other.shares) (old.put ++ other.put) (old.got ++ other.got)

-- one more job was put
abbrev pub with_put : {J : Type 0} → Account J → J → Account J
with_put old job = account old.shares (old.put ++ job ∷ []) old.got

-- one more job was got
abbrev pub with_got : {J : Type 0} → Account J → J → Account J
with_got old job = account old.shares old.put (old.got ++ job ∷ [])

-- it has all the shares, so every other account is empty
abbrev pub IsWhole : {J : Type 0} → Account J → Type 0
IsWhole a = a.shares ≡ ALL_SHARES

-- as far as the account tells, the queue may hold these jobs: a whole one tells that what was put is what was got and these, each as often
abbrev pub MayHold : {J : Type 0} → Account J → List J → Type 0
MayHold a jobs = IsWhole a → IsPermutation a.put (a.got ++ jobs)

-- as far as the account tells, the queue may hold so many jobs
abbrev pub MayHoldSome : {J : Type 0} → Account J → ℕ → Type 0
MayHoldSome {J} a count = (jobs : List J) × (length jobs ≡ count) × MayHold a jobs

-- a number of each account, added up
abbrev pub total : {J : Type 0} → (Account J → ℕ) → List (Account J) → ℕ
total part [] = 0
total part (a ∷ accounts) = part a + total part accounts

-- a list of each account, one after another
abbrev pub listed : {J : Type 0} → (Account J → List J) → List (Account J) → List J
listed part [] = []
listed part (a ∷ accounts) = part a ++ listed part accounts

-- an account without a share has put and got nothing
abbrev pub IdleIsEmpty : {J : Type 0} → List (Account J) → Type 0
IdleIsEmpty {J} accounts = (place : ℕ) (a : Account J) → get_elem? accounts place ≡ some a → a.shares ≡ 0 → (a.put ≡ []) × (a.got ≡ [])

-- what was put is what was got and what the queue holds, each as often
abbrev pub Balanced : {J : Type 0} → List J → List (Account J) → Type 0
Balanced jobs accounts =
    (total (λ a. a.shares) accounts ≡ ALL_SHARES)
    × IsPermutation (listed (λ a. a.put) accounts) (listed (λ a. a.got) accounts ++ jobs)
    × IdleIsEmpty accounts
