-- Packets that are drawn ahead.
use Rattle.std.proofs.Common.{◌≡◌, ◌≢◌, ◌<◌, ◌≤◌, ◌+◌, ◌-◌, ℕ, zero, suc, List, [], ◌∷◌, ◌++◌, Option, Some, None, length, take, drop, get_or, refl, sym, subst, ap, ◌∙◌, append_assoc, append-nil, length-append, length-take, length-drop, take_at, drop_at, take-append-drop, drop-drop, arith}
use Rattle.std.specs.Prelude.{IfSome}
use Rattle.std.specs.List.{All, AllZip, concat}
use Rattle.std.specs.Io.{StartsWith}
use Rattle.std.specs.Io.KnownBytes.{Consumes}
use Rattle.std.proofs.lemmas.Grind.{flat_map-append}
use Rattle.std.proofs.lemmas.List.{drop_all, drop_more, take_more}
use Rattle.std.proofs.KnownBytes.{Consumes-nil, Consumes-trans}
use Rattle.std.proofs.lemmas.List.Elements.{All-append, All-drop, All-get_or, All-head, All-nil, All-tail, All-take}
use Rattle.std.proofs.lemmas.List.Folds.{concat-append}
use Rattle.std.proofs.Math.Seq.{take-append_seam}
use Rattle.decode_session.specs.declared.job.DrawingJob.{DrawingJob}
use Rattle.decode_session.specs.declared.batch.Filled.{Filled}
use Rattle.decode_session.specs.declared.batch.Filled.TheVariants as filled
use Rattle.decode_session.specs.Ahead.{AreDealt, AreJobs, BeginsWith, Come, IsDrawn, IsJob, IsUnused, first_of, packets_from, packets_of}
use Rattle.decode_session.specs.Batches.{EndsBatch, EndsFeed, Reads}
use Rattle.decode_session.proofs.BatchFacts.{batch-ends}
use Rattle.mib_model.specs.declared.database.Database.{Database}
use Rattle.mib_model.specs.Packets.{IsPacket}
use Rattle.packet_feed.proofs.Unique.{same_packet}
use Rattle.packet_feed.specs.Feed.{BeginsWithPacket}

-- ---- octets that begin with packets

-- a packet at the front of octets that begin with packets
one-front : (p q x : List ℕ) (qs : List (List ℕ)) (octets : List ℕ) → IsPacket p → IsPacket q → octets ≡ p ++ x → BeginsWith (q ∷ qs) octets → (p ≡ q) × BeginsWith qs x
one-front p q x qs octets is_p is_q is (rest, whole) =
    let (same, others) = same_packet p q x (concat qs ++ rest) is_p is_q (sym is ∙ whole ∙ append_assoc q (concat qs) rest) in
    (same, (rest, others))

-- packets that stand in front of octets that begin with packets
pub same-front : (packets others : List (List ℕ)) (x octets : List ℕ) → All IsPacket packets → All IsPacket others → octets ≡ concat packets ++ x → BeginsWith others octets
    → BeginsWith (drop (length packets) others) x
same-front [] others x octets are each is (rest, whole) = (rest, sym is ∙ whole)
same-front (p ∷ ps) [] x octets are each is begins = (x, refl)
same-front (p ∷ ps) (q ∷ qs) x octets are each is begins =
    let (same, behind) = one-front p q (concat ps ++ x) qs octets (All-head IsPacket p ps are) (All-head IsPacket q qs each) (is ∙ append_assoc p (concat ps) x) begins in
    same-front ps qs x (concat ps ++ x) (All-tail IsPacket p ps are) (All-tail IsPacket q qs each) refl behind

-- octets at hand begin with packets, and so do those that are left
pub come-hand : (packets more : List (List ℕ)) (left : Option (List ℕ)) (hand : List ℕ) → Come more left → IfSome left (λ octets. StartsWith octets hand) → BeginsWith packets hand → Come packets left
come-hand packets more None hand come starts begins = come
come-hand packets more (Some octets) hand come starts (rest, whole) =
    let others = drop (length hand) octets in
    (rest ++ others, sym (take-append-drop (length hand) octets) ∙ ap (λ l. l ++ others) (starts ∙ whole) ∙ append_assoc (concat packets) rest others)

-- a packet is at hand where packets come
pub come-packet : (packets : List (List ℕ)) (left : Option (List ℕ)) → 0 < length packets → All IsPacket packets → Come packets left → IfSome left BeginsWithPacket
come-packet packets None some each come = tt
come-packet [] (Some octets) some each come = absurd (omega (arith, some))
come-packet (p ∷ ps) (Some octets) some each (rest, whole) =
    let is = whole ∙ append_assoc p (concat ps) rest in
    let front : take (length p) octets ≡ p = ap (take (length p)) is ∙ take_at p (concat ps ++ rest) (length p) refl in
    (length p, omega (arith, ap (λ (l : List ℕ). length l) is, length-append p (concat ps ++ rest)), subst IsPacket (sym front) (All-head IsPacket p ps each))

-- ---- packets that are read where others are expected

-- so many of these packets were read
abbrev pub HasRead : List (List ℕ) → ℕ → Option (List ℕ) → Option (List ℕ) → Type 0
HasRead packets k old left = Consumes old left (concat (take k packets)) × Come (drop k packets) left

come-step : (p : List ℕ) (ps : List (List ℕ)) (octets : List ℕ) (left after : Option (List ℕ)) → IsPacket p → IsPacket octets → Consumes left after octets → Come (p ∷ ps) left
    → (octets ≡ p) × Come ps after
come-step p ps octets None after is_p is taken come = absurd come
come-step p ps octets (Some l) None is_p is taken come = absurd taken
come-step p ps octets (Some l) (Some a) is_p is taken come = one-front octets p a ps l is is_p taken come

pub read-none : (packets : List (List ℕ)) (left : Option (List ℕ)) → Come packets left → HasRead packets 0 left left
read-none packets left come = (Consumes-nil left, come)

-- one packet more
pub read-more : (packets : List (List ℕ)) (k : ℕ) (octets : List ℕ) (old left after : Option (List ℕ)) → k < length packets → All IsPacket packets → IsPacket octets → Consumes left after octets
    → HasRead packets k old left → HasRead packets (k + 1) old after
read-more packets k octets old left after below each is_packet taken (front, come) =
    let p = get_or packets k [] in
    let ps = drop (k + 1) packets in
    let (same, behind) = come-step p ps octets left after (All-get_or IsPacket packets k [] below each) is_packet taken (subst (λ l. Come l left) (drop_more packets k [] below) come) in
    let more : concat (take (k + 1) packets) ≡ concat (take k packets) ++ octets =
    ap concat (take_more packets k [] below) ∙ concat-append (take k packets) (p ∷ []) ∙ ap (λ l. concat (take k packets) ++ l) (append-nil p ∙ sym same) in
    (subst (Consumes old after) (sym more) (Consumes-trans old left after (concat (take k packets)) octets front taken), behind)

-- what follows, follows where something is told
pub under : (start : Option (List ℕ)) (P Q : Type 0) → (P → Q) → IfSome start (λ octets. P) → IfSome start (λ octets. Q)
under None P Q then holds = tt
under (Some octets) P Q then holds = then holds

-- so many packets were read, and it ended so
pub reads-so : (f : Filled) (start : Option (List ℕ)) (number k : ℕ) (packets : List (List ℕ)) (old left new : Option (List ℕ)) → All IsPacket packets → k ≤ length packets
    → (Come packets old → HasRead packets k old left) → (Come packets old → EndsBatch f (take k packets) left new) → (f ≢ filled.Paused → EndsFeed f left new)
    → IfSome start (λ octets. Come packets old) → Reads f start number (number + k) (take k packets) old new
reads-so f start number k packets old left new each few read ends of_feed come =
    record {
      middle = left;
      are_packets = All-take IsPacket k packets each;
      taken = under start (Come packets old) (Consumes old left (concat (take k packets))) (λ told. (read told).0) come;
      count = omega (arith, few, length-take k packets);
      ends = under start (Come packets old) (EndsBatch f (take k packets) left new) ends come;
      of_feed = of_feed;
    }

-- the feed ends before all of them were read
pub read-ends : (f : Filled) (packets : List (List ℕ)) (k : ℕ) (old left new : Option (List ℕ)) → k < length packets → All IsPacket packets → EndsFeed f left new
    → HasRead packets k old left → EndsBatch f (take k packets) left new
read-ends f packets k old left new below each ends (front, come) =
    batch-ends f (take k packets) left new ends (λ some. come-packet (drop k packets) left (omega (arith, below, length-drop k packets)) (All-drop IsPacket k packets each) come)

-- ---- jobs

-- what stands behind other items
drop-past : {X : Type 0} (xs ys : List X) (n m : ℕ) → n ≡ length xs + m → drop n (xs ++ ys) ≡ drop m ys
drop-past xs ys n m is = ap (λ k. drop k (xs ++ ys)) is ∙ sym (drop-drop m (length xs) (xs ++ ys)) ∙ ap (drop m) (drop_at xs ys (length xs) refl)

-- one job more
pub jobs-push : (db : Database) (number : ℕ) (jobs : List DrawingJob) (job : DrawingJob) → AreJobs db number jobs → job.number ≡ number + length (packets_of jobs) → IsJob db job → AreJobs db number (jobs ++ job ∷ [])
jobs-push db number [] job are is is_job = (omega (arith, is), is_job, tt)
jobs-push db number (j ∷ js) job (same, each, are) is is_job =
    (same, each, jobs-push db (number + length j.stretch.packets) js job are (omega (arith, is, length-append j.stretch.packets (packets_of js))) is_job)

packets-push : (jobs : List DrawingJob) (job : DrawingJob) → packets_of (jobs ++ job ∷ []) ≡ packets_of jobs ++ job.stretch.packets
packets-push jobs job = flat_map-append (λ (j : DrawingJob). j.stretch.packets) jobs (job ∷ []) ∙ ap (λ l. packets_of jobs ++ l) (append-nil job.stretch.packets)

pub count-push : (jobs : List DrawingJob) (job : DrawingJob) → length (packets_of (jobs ++ job ∷ [])) ≡ length (packets_of jobs) + length job.stretch.packets
count-push jobs job = ap (λ (l : List (List ℕ)). length l) (packets-push jobs job) ∙ length-append (packets_of jobs) job.stretch.packets

pub octets-push : (jobs : List DrawingJob) (job : DrawingJob) (octets left rest : List ℕ) → octets ≡ concat (packets_of jobs) ++ left → left ≡ concat job.stretch.packets ++ rest
    → octets ≡ concat (packets_of (jobs ++ job ∷ [])) ++ rest
octets-push jobs job octets left rest front behind =
    front ∙ ap (λ l. concat (packets_of jobs) ++ l) behind ∙ sym (append_assoc (concat (packets_of jobs)) (concat job.stretch.packets) rest)
    ∙ ap (λ l. l ++ rest) (sym (ap concat (packets-push jobs job) ∙ concat-append (packets_of jobs) job.stretch.packets))

-- jobs that are drawn are jobs of the same packets
pub drawn-jobs : (db : Database) (number : ℕ) (jobs done : List DrawingJob) → AllZip (IsDrawn db) jobs done → AreJobs db number jobs → AreJobs db number done × (packets_of done ≡ packets_of jobs)
drawn-jobs db number [] [] drawn are = (tt, refl)
drawn-jobs db number [] (d ∷ ds) drawn are = absurd drawn
drawn-jobs db number (j ∷ js) [] drawn are = absurd drawn
drawn-jobs db number (j ∷ js) (d ∷ ds) (one, others) (same, each, are) =
    let packets : d.stretch.packets ≡ j.stretch.packets = ap (λ s. s.packets) one.stretch in
    let (further, behind) = drawn-jobs db (number + length j.stretch.packets) js ds others are in (
      (one.number ∙ same, one.job each, subst (λ (l : List (List ℕ)). AreJobs db (number + length l) ds) (sym packets) further),
      (λ i. packets i ++ behind i),
    )

-- a job that nobody draws
pub drawn_same : (db : Database) (job : DrawingJob) → IsDrawn db job job
drawn_same db job = record { number = refl; stretch = refl; job = λ is_job. is_job }

jobs-packets : (db : Database) (number : ℕ) (jobs : List DrawingJob) → AreJobs db number jobs → All IsPacket (packets_of jobs)
jobs-packets db number [] are = All-nil IsPacket
jobs-packets db number (j ∷ js) (same, each, are) = All-append IsPacket j.stretch.packets (packets_of js) each.are_packets (jobs-packets db (number + length j.stretch.packets) js are)

-- a job, and where its packets stand
record Stands (db : Database) (number : ℕ) (jobs : List DrawingJob) (job : DrawingJob) : Type 0 where
  is_job : IsJob db job
  order : number ≤ job.number
  more : List (List ℕ)
  place : drop (job.number - number) (packets_of jobs) ≡ job.stretch.packets ++ more

stands-at : (db : Database) (number : ℕ) (jobs : List DrawingJob) (i : ℕ) (d : DrawingJob) → i < length jobs → AreJobs db number jobs → Stands db number jobs (get_or jobs i d)
stands-at db number [] i d below are = absurd (omega (arith, below))
stands-at db number (j ∷ js) zero d below (same, each, are) =
    let none : j.number - number ≡ 0 = omega (arith, same) in
    record { is_job = each; order = omega (arith, same); more = packets_of js; place = ap (λ n. drop n (packets_of (j ∷ js))) none }
stands-at db number (j ∷ js) (suc i) d below (same, each, are) =
    let next = number + length j.stretch.packets in
    let s = stands-at db next js i d (omega (arith, below)) are in
    let job = get_or js i d in
    record {
      is_job = s.is_job;
      order = omega (arith, s.order);
      more = s.more;
      place = drop-past j.stretch.packets (packets_of js) (job.number - number) (job.number - next) (omega (arith, s.order)) ∙ s.place;
    }

module _ (db : Database) (number : ℕ) (jobs : List DrawingJob) (i : ℕ) (job : DrawingJob) (below : i < length jobs) (is : job ≡ get_or jobs i job) (dealt : AreDealt db number jobs) where
  found : Stands db (first_of jobs) jobs job
  found = subst (Stands db (first_of jobs) jobs) (sym is) (stands-at db (first_of jobs) jobs i job below dealt.0)

  pub found-job : IsJob db job
  found-job = found.is_job

  -- its packets come where it has the number
  pub found-come : (left : Option (List ℕ)) → job.number ≡ number → Come (packets_from number jobs) left → Come job.stretch.packets left
  found-come None same come = come
  found-come (Some octets) same come =
      let (rest, whole) = subst (λ l. BeginsWith l octets) (ap (λ n. drop (n - first_of jobs) (packets_of jobs)) (sym same) ∙ found.place) come in
      (concat found.more ++ rest, whole ∙ ap (λ l. l ++ rest) (concat-append job.stretch.packets found.more) ∙ append_assoc (concat job.stretch.packets) (concat found.more) rest)

-- packets of which none was read yet
pub dealt-first : (db : Database) (number : ℕ) (jobs : List DrawingJob) → AreJobs db number jobs → AreDealt db number jobs × (packets_from number jobs ≡ packets_of jobs)
dealt-first db number [] are = ((tt, omega arith), drop_all (number - 0) [] (omega arith))
dealt-first db number (j ∷ js) are =
    let none : number - j.number ≡ 0 = omega (arith, are.0) in
    ((subst (λ n. AreJobs db n (j ∷ js)) (sym are.0) are, omega (arith, are.0)), ap (λ n. drop n (packets_of (j ∷ js))) none)

pub dealt-next : (db : Database) (number next : ℕ) (jobs : List DrawingJob) → number ≤ next → AreDealt db number jobs → AreDealt db next jobs
dealt-next db number next jobs more (are, order) = (are, omega (arith, order, more))

-- packets were read, and the others come
pub come-next : (db : Database) (number next : ℕ) (jobs : List DrawingJob) (packets : List (List ℕ)) (start left new : Option (List ℕ)) → AreDealt db number jobs
    → Reads filled.Paused start number next packets left new → IfSome start (λ octets. Come (packets_from number jobs) left) → IfSome start (λ octets. Come (packets_from next jobs) new)
come-next db number next jobs packets None left new dealt reads come = tt
come-next db number next jobs packets (Some octets) left new dealt reads come =
    subst (Come (packets_from next jobs)) (sym reads.ends.0) (behind left reads.middle reads.taken come)
  where
    place : drop (length packets) (packets_from number jobs) ≡ packets_from next jobs
    place =
        let same : number - first_of jobs + length packets ≡ next - first_of jobs = omega (arith, reads.count, dealt.1) in
        drop-drop (length packets) (number - first_of jobs) (packets_of jobs) ∙ ap (λ n. drop n (packets_of jobs)) same

    behind : (old middle : Option (List ℕ)) → Consumes old middle (concat packets) → Come (packets_from number jobs) old → Come (packets_from next jobs) middle
    behind None middle taken told = absurd told
    behind (Some l) None taken told = absurd taken
    behind (Some l) (Some m) taken told =
        subst (λ ps. BeginsWith ps m) place
        (same-front packets (packets_from number jobs) m l reads.are_packets (All-drop IsPacket (number - first_of jobs) (packets_of jobs) (jobs-packets db (first_of jobs) jobs dealt.0)) taken told)

-- ---- jobs without packets

pub unused-jobs : (db : Database) (jobs : List DrawingJob) → All IsUnused jobs → AreJobs db 0 jobs × (packets_of jobs ≡ [])
unused-jobs db [] each = (tt, refl)
unused-jobs db (j ∷ js) each =
    let u = All-head IsUnused j js each in
    let none : j.stretch.packets ≡ [] = ap (λ s. s.packets) u.stretch in
    let (are, nothing) = unused-jobs db js (All-tail IsUnused j js each) in (
      (
        u.number,
        record {
          are_packets = subst (All IsPacket) (sym none) (All-nil IsPacket);
          few = omega (arith, u.drawn);
          sheet = λ some. absurd (omega (arith, some, u.drawn));
        },
        subst (λ (l : List (List ℕ)). AreJobs db (0 + length l) js) (sym none) are,
      ),
      (λ i. none i ++ nothing i),
    )

-- nothing is expected at the start of a run
pub unused-dealt : (db : Database) (jobs : List DrawingJob) → All IsUnused jobs → AreDealt db 1 jobs
unused-dealt db [] each = (tt, omega arith)
unused-dealt db (j ∷ js) each =
    let (are, nothing) = unused-jobs db (j ∷ js) each in
    (subst (λ n. AreJobs db n (j ∷ js)) (sym are.0) are, omega (arith, are.0))

pub unused-come : (db : Database) (jobs : List DrawingJob) (start : Option (List ℕ)) → All IsUnused jobs → IfSome start (λ octets. Come (packets_from 1 jobs) start)
unused-come db jobs None each = tt
unused-come db jobs (Some octets) each =
    let (are, nothing) = unused-jobs db jobs each in
    let none : packets_from 1 jobs ≡ [] = ap (drop (1 - first_of jobs)) nothing ∙ drop_all (1 - first_of jobs) [] (omega arith) in
    subst (λ ps. BeginsWith ps octets) (sym none) (octets, refl)

-- ---- items that were worked

-- what holds of the items of two lists at each place
pub zip-each : {X : Type 0} (R : X → X → Type 0) (xs ys : List X) → length ys ≡ length xs → ((i : ℕ) (d : X) → i < length xs → R (get_or xs i d) (get_or ys i d)) → AllZip R xs ys
zip-each R [] [] same each = tt
zip-each R [] (y ∷ ys) same each = absurd (omega arith)
zip-each R (x ∷ xs) [] same each = absurd (omega arith)
zip-each R (x ∷ xs) (y ∷ ys) same each = (each 0 x (omega arith), zip-each R xs ys (omega arith) (λ i d lt. each (suc i) d (omega arith)))

-- a list that was lent comes back as it was left
pub came_back : {X : Type 0} (xs ys : List X) (n : ℕ) → length ys ≡ length xs → n ≡ length xs → take n (ys ++ drop (length ys) xs) ≡ ys
came_back xs ys n same is =
    let seam : n ≡ length ys = is ∙ sym same in
    ap (λ k. take k (ys ++ drop (length ys) xs)) seam ∙ take-append_seam ys (drop (length ys) xs)
