-- Why a command and a restart fail.
use Rattle.face.proofs.Names.{◌≡◌, ℕ, List, IsTrue, IfErr, IsErrOf, refl, Result, Ok, Err, Stands, sizes_of, LeavesTable, Matches, Engine, HasCause, FailsBy, IsWorn, State, Content, IsLogWorn, KeepsNext, TransactionStore, FaultRose, HasLimits, HasLengths, Site, Geometry, Dev, Log, Flash, Disk, Stop, Device, Memory, Worn, Foreign}
use Rattle.page_store.specs.Stopping.{MayStop}
use Rattle.engine.specs.Restarting.{LeavesNext}
use Rattle.engine.specs.Calls.{Ends}
use Rattle.front_end.specs.declared.halt.Halt.TheVariants as halt

-- why a command fails
pub fails_by : {T : Type 0} (result : Result T Stop) (engine : Engine) {after : TransactionStore} (old new : Site) → IfErr result MayStop → (IsTrue old.honest → KeepsNext result engine.store after old new) → ((d : Dev) → IsErrOf result (Device d) → FaultRose d old new)
    → ((s : State) → Matches engine old s → IsErrOf result (Worn Log) → IsLogWorn (sizes_of engine.store) new.image) → ((s : State) → Matches engine old s → IsErrOf result (Worn Flash) → IsWorn (sizes_of engine.store) new.image)
    → (IsErrOf result Foreign → (s : State) → Matches engine old s → ⊥) → IfErr result (λ stop. FailsBy stop engine old new)
fails_by (Ok done) engine old new stops next rose log flash foreign = tt
fails_by (Err (Device dev)) engine old new stops next rose log flash foreign = rose dev refl
fails_by (Err Memory) engine old new stops next rose log flash foreign = tt
fails_by (Err (Worn Log)) engine old new stops next rose log flash foreign = (λ honest is. (next honest).worn is Log refl, λ s fits. log s fits refl)
fails_by (Err (Worn Flash)) engine old new stops next rose log flash foreign = (λ honest is. (next honest).worn is Flash refl, λ s fits. flash s fits refl)
fails_by (Err (Worn Disk)) engine old new stops next rose log flash foreign = absurd stops
fails_by (Err Foreign) engine old new stops next rose log flash foreign = foreign refl

-- why restart stops
pub start_cause : {T : Type 0} {store_of : T → TransactionStore} (result : Result T Stop) (stop : Stop) (old new : Site) → result ≡ Err stop → MayStop stop → ((d : Dev) → IsErrOf result (Device d) → FaultRose d old new)
    → (IsTrue old.honest → (g : Geometry) (table : List Content) (commits : ℕ) → Stands g old.image table commits → Ends result g old new (LeavesTable g table commits old.told))
    → (IsTrue old.honest → (g : Geometry) → HasLimits g → HasLengths g old.image → LeavesNext result store_of g new) → HasCause (halt.Stop stop) old new
start_cause result (Device dev) old new failed stops rose ends next = rose dev failed
start_cause result Memory old new failed stops rose ends next = tt
start_cause result (Worn Log) old new failed stops rose ends next = λ honest g limits lengths. ((next honest g limits lengths).worn Log failed, λ table commits stands. (ends honest g table commits stands).worn_log failed)
start_cause result (Worn Flash) old new failed stops rose ends next = λ honest g limits lengths. ((next honest g limits lengths).worn Flash failed, λ table commits stands. (ends honest g table commits stands).worn failed)
start_cause result (Worn Disk) old new failed stops rose ends next = absurd stops
start_cause result Foreign old new failed stops rose ends next = λ honest g table commits stands. (ends honest g table commits stands).readable failed
