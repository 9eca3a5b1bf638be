-- Where a page is, as a test that it passes or not: of the page of a number, if one is mapped.
use Rattle.std.specs.Prelude.{Bool, true, false, Option, Some, None}
use Rattle.page_store.specs.declared.state.PageState.{PageState}
use Rattle.page_store.specs.declared.state.PageState.TheVariants.{Fresh, Resident, Leaving, Saving, Away, Purged}

-- whether a page is mapped, and has neither a frame nor was given up
abbrev pub is_absent_stage : Option PageState → Bool
is_absent_stage None = false
is_absent_stage (Some Fresh) = true
is_absent_stage (Some Resident) = false
is_absent_stage (Some Leaving) = false
is_absent_stage (Some Saving) = false
is_absent_stage (Some Away) = true
is_absent_stage (Some Purged) = false

-- whether it is mapped to its frame
abbrev pub is_resident_stage : Option PageState → Bool
is_resident_stage None = false
is_resident_stage (Some Fresh) = false
is_resident_stage (Some Resident) = true
is_resident_stage (Some Leaving) = false
is_resident_stage (Some Saving) = false
is_resident_stage (Some Away) = false
is_resident_stage (Some Purged) = false

-- whether it is unmapped, and holds its frame still
abbrev pub is_leaving_stage : Option PageState → Bool
is_leaving_stage None = false
is_leaving_stage (Some Fresh) = false
is_leaving_stage (Some Resident) = false
is_leaving_stage (Some Leaving) = true
is_leaving_stage (Some Saving) = false
is_leaving_stage (Some Away) = false
is_leaving_stage (Some Purged) = false

-- whether it is copied, and that copy is being saved
abbrev pub is_saving_stage : Option PageState → Bool
is_saving_stage None = false
is_saving_stage (Some Fresh) = false
is_saving_stage (Some Resident) = false
is_saving_stage (Some Leaving) = false
is_saving_stage (Some Saving) = true
is_saving_stage (Some Away) = false
is_saving_stage (Some Purged) = false

-- whether it was given up
abbrev pub is_purged_stage : Option PageState → Bool
is_purged_stage None = false
is_purged_stage (Some Fresh) = false
is_purged_stage (Some Resident) = false
is_purged_stage (Some Leaving) = false
is_purged_stage (Some Saving) = false
is_purged_stage (Some Away) = false
is_purged_stage (Some Purged) = true

-- whether it holds a frame
abbrev pub has_frame_stage : Option PageState → Bool
has_frame_stage None = false
has_frame_stage (Some Fresh) = false
has_frame_stage (Some Resident) = true
has_frame_stage (Some Leaving) = true
has_frame_stage (Some Saving) = true
has_frame_stage (Some Away) = false
has_frame_stage (Some Purged) = false
