-- What the commands that run guests do with what they are asked for.
use Rattle.std.specs.Prelude.{◌≡◌, ℕ, List, map, option_map}
use Rattle.flat_machine.specs.Process.{Process, opening}
use Rattle.elf_image.specs.Start.{Start}
use Rattle.guest_strings.specs.Slices.{guest_string}
use Rattle.miss_counts.specs.Guests.{IsTable}
use Rattle.miss_counts.specs.declared.counts.PolicyCounts.{PolicyCounts}
use Rattle.image_files.specs.Reading.{AreGiven}
use Rattle.policies_requests.specs.declared.request.GuestRequest.{GuestRequest}
use Rattle.policies_requests.specs.declared.request.MissesRequest.{MissesRequest}

-- the process that begins so
abbrev pub opened : Start → Process
opened start = opening start.image start.input

-- `gives` says, of a name, which bytes a file of that name may be found to hold
module _ (gives : List ℕ → List ℕ → Type 0) where
  -- the guests that are asked for: by their order the images of the files, the first on the named input, the others on none
  pub record AreGuests (request : GuestRequest) (processes : List Process) : Type 0 where
    pub starts : List Start
    pub given : AreGiven gives (option_map (λ s. s.now) request.input) (map (λ s. s.now) request.images.items) starts
    pub begin : processes ≡ map opened starts

  -- Each row has the misses of the guests' string, of the references that were asked for, by slices of so many instructions as were
  -- asked for, to the limit that was asked for, of the policies that were asked for, for the numbers of frames that were asked for, or for the usual ones.
  pub record CountsAsAsked (request : MissesRequest) (rows : List PolicyCounts) : Type 0 where
    pub processes : List Process
    pub guests : AreGuests request.guest processes
    pub table : IsTable request.wanted (guest_string request.guest.accesses request.guest.slice request.guest.limit processes) (option_map (λ s. s.items) request.sizes) rows
