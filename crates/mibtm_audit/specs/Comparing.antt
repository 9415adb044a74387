-- What a comparison takes of a feed and what it finds. [This profile.]
use Rattle.std.specs.Prelude.{◌≡◌, ◌⊎◌, ℕ, ◌≤◌, Bool, true, false, List, [], ◌∷◌, ◌++◌, length, Option, Some, None, IfSome}
use Rattle.std.specs.Io.KnownBytes.{Consumes}
use Rattle.std.specs.List.{All, concat}
use Rattle.tm_io.specs.Causes.{RisesWhere}
use Rattle.mib_model.specs.Packets.{BeginsNoPacket, IsPacket}
use Rattle.tm_audit.specs.declared.code.AuditCode.{AuditCode}
use Rattle.tm_audit.specs.declared.code.AuditCode.TheVariants as code
use Rattle.mibtm_audit.specs.Courses.{Against, Stands, expected_of, found_of}
use Rattle.mibtm_audit.specs.declared.audit.Audit.{Audit}

-- the one text is a front of the other
abbrev pub IsFront : List ℕ → List ℕ → Type 0
IsFront front text = (more : List ℕ) × (text ≡ front ++ more)

-- the text that is expected of these packets is a front of the text, so no difference comes before the next packet
abbrev pub IsReached : Against → List (List ℕ) → Type 0
IsReached a packets = IsFront (expected_of a packets []) a.text

-- whether the feed failed
abbrev pub is_feed_fault : AuditCode → Bool
is_feed_fault code.FeedFault = true
is_feed_fault other = false

-- the count of the feed rose where it failed, and else stays as it was
abbrev pub HasNextFault : Option AuditCode → ℕ → ℕ → Type 0
HasNextFault None before now = now ≡ before
HasNextFault (Some c) before now = RisesWhere (is_feed_fault c) before now

-- packets were taken from a feed, a last one of them, and a rest that begins no packet; the text parts from what is expected of no packet
-- before the last, so nothing was read behind the first difference
pub record Took (a : Against) (packets last : List (List ℕ)) (rest : List ℕ) (old new : Option (List ℕ)) : Type 0 where
  pub each : All IsPacket (packets ++ last)
  pub few : length last ≤ 1
  pub begins_none : BeginsNoPacket rest
  pub consumed : Consumes old new (concat (packets ++ last) ++ rest)
  pub reached : IsReached a packets

-- the text parts in what is expected of the last packet, whatever stands behind it
pub record Parts (c : AuditCode) (a : Against) (old new : Option (List ℕ)) : Type 0 where
  pub packets : List (List ℕ)
  pub last : List (List ℕ)
  pub took : Took a packets last [] old new
  pub found : (others : List (List ℕ)) (rest : List ℕ) → found_of a ((packets ++ last) ++ others) rest ≡ c

-- packets and a rest were the whole feed
pub record Ends (c : AuditCode) (a : Against) (old new : Option (List ℕ)) : Type 0 where
  pub packets : List (List ℕ)
  pub rest : List ℕ
  pub took : Took a packets [] rest old new
  pub whole : IfSome old (λ octets. octets ≡ concat packets ++ rest)
  pub found : found_of a packets rest ≡ c

-- the feed failed behind packets and a rest
pub record Fails (a : Against) (old new : Option (List ℕ)) : Type 0 where
  pub packets : List (List ℕ)
  pub rest : List ℕ
  pub took : Took a packets [] rest old new

-- nothing is found behind packets
pub record Stops (a : Against) (old new : Option (List ℕ)) : Type 0 where
  pub packets : List (List ℕ)
  pub last : List (List ℕ)
  pub took : Took a packets last [] old new

-- what a comparison took and found, by its code
abbrev pub Compares : AuditCode → Against → Option (List ℕ) → Option (List ℕ) → Type 0
Compares code.Same a old new = Ends code.Same a old new
Compares (code.Differs line) a old new = Parts (code.Differs line) a old new ⊎ Ends (code.Differs line) a old new
Compares code.FeedFault a old new = Fails a old new
Compares code.Want a old new = Stops a old new
Compares other a old new = ⊥

-- ---- one packet

-- a packet was taken, and the audit goes on behind it
pub record Takes (a : Against) (packets : List (List ℕ)) (audit : Audit) (old new : Option (List ℕ)) : Type 0 where
  pub packet : List ℕ
  pub is_packet : IsPacket packet
  pub reached : IsReached a packets
  pub consumed : Consumes old new packet
  pub stands : Stands a (packets ++ packet ∷ []) audit

-- the text has parted already
pub record HasParted (c : AuditCode) (a : Against) (packets : List (List ℕ)) (old new : Option (List ℕ)) : Type 0 where
  pub same : new ≡ old
  pub found : (others : List (List ℕ)) (rest : List ℕ) → found_of a (packets ++ others) rest ≡ c

-- a rest was taken that begins no packet
pub record TakesRest (a : Against) (packets : List (List ℕ)) (rest : List ℕ) (old new : Option (List ℕ)) : Type 0 where
  pub reached : IsReached a packets
  pub begins_none : BeginsNoPacket rest
  pub consumed : Consumes old new rest

-- the feed has ended behind a rest
pub record HasEnded (c : AuditCode) (a : Against) (packets : List (List ℕ)) (old new : Option (List ℕ)) : Type 0 where
  pub rest : List ℕ
  pub takes : TakesRest a packets rest old new
  pub whole : IfSome old (λ octets. octets ≡ rest)
  pub found : found_of a packets rest ≡ c

-- a packet was taken of which nothing is known
pub record Wants (a : Against) (packets : List (List ℕ)) (old new : Option (List ℕ)) : Type 0 where
  pub packet : List ℕ
  pub is_packet : IsPacket packet
  pub reached : IsReached a packets
  pub consumed : Consumes old new packet

-- what came of the next packet behind these: the audit goes on, or it ends so
abbrev pub Comes : Option AuditCode → Against → List (List ℕ) → Audit → Option (List ℕ) → Option (List ℕ) → Type 0
Comes None a packets audit old new = Takes a packets audit old new
Comes (Some code.Same) a packets audit old new = HasEnded code.Same a packets old new
Comes (Some (code.Differs line)) a packets audit old new =
    HasParted (code.Differs line) a packets old new ⊎ HasEnded (code.Differs line) a packets old new
Comes (Some code.FeedFault) a packets audit old new = (rest : List ℕ) × TakesRest a packets rest old new
Comes (Some code.Want) a packets audit old new = Wants a packets old new
Comes (Some other) a packets audit old new = ⊥
